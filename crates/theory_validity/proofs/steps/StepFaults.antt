-- A step has no failing test exactly where it is valid.
use Rattle.std.proofs.Common.{◌≡◌, ◌↔◌, inl, inr, ⊎_elim, ℕ, suc, false, List, [], ◌∷◌, refl, sym, subst}
use Rattle.std.specs.Prelude.{Option, Some, None}
use Rattle.std.proofs.lemmas.Bool.{cases_Bool}
use Rattle.base_facts.specs.Elements.{In}
use Rattle.base_numbers.specs.Rational.{ℚ, ◌≤ℚ◌}
use Rattle.base_numbers.specs.Extended.{fin, pos_inf, ◌≤ᴱ◌, ◌<ᴱ◌}
use Rattle.flow_systems.specs.Equations.{Equations, Vector}
use Rattle.theory_validity.specs.Steps.{word, Runs, Item, Kind, Plain, Jump, Ray, Step, edge_of, put, new_value, names, Placed, Unnamed}
use Rattle.theory_validity.specs.Steps.{Distinct, Sized, item_value, ValidItem, ValidStep}
use Rattle.theory_validity.specs.Faults.{Fault, HighFault, RayFault, unless, and_then, SecondSized, Named, bound_at, first_tests}
use Rattle.theory_validity.specs.Faults.{first_pass, Goes, Lands, second_pass, step_fault, dec_named, dec_goes, dec_lands}
use Rattle.theory_validity.specs.Decide.{dec_le_ℚ, dec_ltᴱ, dec_finite, dec_runs}
use Rattle.theory_validity.proofs.steps.Puts.{named_is, not_unnamed}

-- ---- tests
pub unless_none : {P : Type 0} (d : Dec P) (fault : Fault) (next : Option Fault) → unless d fault next ≡ None → P × (next ≡ None)
unless_none (yes p) fault next e = (p, e)
unless_none (no n) fault next e = cc

-- and the other way round
pub unless_yes : {P : Type 0} (d : Dec P) (fault : Fault) (next : Option Fault) → P → next ≡ None → unless d fault next ≡ None
unless_yes (yes p) fault next h e = e
unless_yes (no n) fault next h e = absurd (n h)

-- two parts have no fault where neither has one
pub and_then_none : (a b : Option Fault) → and_then a b ≡ None → (a ≡ None) × (b ≡ None)
and_then_none None b e = (refl, e)
and_then_none (Some f) b e = cc

-- and the other way round
pub and_then_yes : (a b : Option Fault) → a ≡ None → b ≡ None → and_then a b ≡ None
and_then_yes None b e f = f
and_then_yes (Some x) b e f = cc

-- ---- the first pass
abbrev FirstOk : Kind → Equations → Vector → Item → Type 0
FirstOk Plain system z item = Runs system z (edge_of system item) (word item.low)
    × ((bound_at z item <ᴱ fin item.number) × (item.number ≤ℚ item_value system item (word item.low)))
FirstOk Jump system z item = ((c : ℚ) × (bound_at z item ≡ fin c)) × (Runs system z (edge_of system item) (word item.low)
    × (bound_at z item <ᴱ fin (item_value system item (word item.low))))
FirstOk Ray system z item = (bound_at z item <ᴱ pos_inf) × (Runs system z (edge_of system item) (word item.low)
    × (bound_at z item <ᴱ fin (item_value system item (word item.low))))

first_tests_none : (kind : Kind) (system : Equations) (z : Vector) (earlier : List Item) (s k : ℕ) (item : Item) (next : Option Fault) →
    first_tests kind system z earlier s k item next ≡ None → Named kind system earlier item × (FirstOk kind system z item × (next ≡ None))
unfolding first_tests
first_tests_none Plain system z earlier s k item next e =
    let a = unless_none (dec_named Plain system earlier item) _ _ e in
    let b = unless_none (dec_runs system z (edge_of system item) (word item.low)) _ _ a.1 in
    let c = unless_none (dec_ltᴱ (bound_at z item) (fin item.number)) _ _ b.1 in
    let d = unless_none (dec_le_ℚ item.number (item_value system item (word item.low))) _ _ c.1 in
    (a.0, ((b.0, (c.0, d.0)), d.1))
first_tests_none Jump system z earlier s k item next e =
    let a = unless_none (dec_named Jump system earlier item) _ _ e in
    let b = unless_none (dec_finite (bound_at z item)) _ _ a.1 in
    let c = unless_none (dec_runs system z (edge_of system item) (word item.low)) _ _ b.1 in
    let d = unless_none (dec_ltᴱ (bound_at z item) (fin (item_value system item (word item.low)))) _ _ c.1 in
    (a.0, ((b.0, (c.0, d.0)), d.1))
first_tests_none Ray system z earlier s k item next e =
    let a = unless_none (dec_named Ray system earlier item) _ _ e in
    let b = unless_none (dec_ltᴱ (bound_at z item) pos_inf) _ _ a.1 in
    let c = unless_none (dec_runs system z (edge_of system item) (word item.low)) _ _ b.1 in
    let d = unless_none (dec_ltᴱ (bound_at z item) (fin (item_value system item (word item.low)))) _ _ c.1 in
    (a.0, ((b.0, (c.0, d.0)), d.1))

first_tests_yes : (kind : Kind) (system : Equations) (z : Vector) (earlier : List Item) (s k : ℕ) (item : Item) (next : Option Fault) →
    Named kind system earlier item → FirstOk kind system z item → next ≡ None → first_tests kind system z earlier s k item next ≡ None
unfolding first_tests
first_tests_yes Plain system z earlier s k item next n h e =
    unless_yes (dec_named Plain system earlier item) _ _ n (unless_yes (dec_runs system z (edge_of system item) (word item.low)) _ _ h.0
    (unless_yes (dec_ltᴱ (bound_at z item) (fin item.number)) _ _ h.1.0
    (unless_yes (dec_le_ℚ item.number (item_value system item (word item.low))) _ _ h.1.1 e)))
first_tests_yes Jump system z earlier s k item next n h e =
    unless_yes (dec_named Jump system earlier item) _ _ n (unless_yes (dec_finite (bound_at z item)) _ _ h.0
    (unless_yes (dec_runs system z (edge_of system item) (word item.low)) _ _ h.1.0
    (unless_yes (dec_ltᴱ (bound_at z item) (fin (item_value system item (word item.low)))) _ _ h.1.1 e)))
first_tests_yes Ray system z earlier s k item next n h e =
    unless_yes (dec_named Ray system earlier item) _ _ n (unless_yes (dec_ltᴱ (bound_at z item) pos_inf) _ _ h.0
    (unless_yes (dec_runs system z (edge_of system item) (word item.low)) _ _ h.1.0
    (unless_yes (dec_ltᴱ (bound_at z item) (fin (item_value system item (word item.low)))) _ _ h.1.1 e)))

abbrev FirstAll : Kind → Equations → Vector → List Item → List Item → Type 0
FirstAll kind system z earlier [] = Unit {0}
FirstAll kind system z earlier (item ∷ items) = (Named kind system earlier item × FirstOk kind system z item)
    × FirstAll kind system z (item ∷ earlier) items

first_pass_none : (kind : Kind) (system : Equations) (z : Vector) (s k : ℕ) (earlier items : List Item)
    → first_pass kind system z s k earlier items ≡ None → FirstAll kind system z earlier items
unfolding first_pass
first_pass_none kind system z s k earlier [] e = tt
first_pass_none kind system z s k earlier (item ∷ items) e =
    let r = first_tests_none kind system z earlier s k item (first_pass kind system z s (suc k) (item ∷ earlier) items) e in
    ((r.0, r.1.0), first_pass_none kind system z s (suc k) (item ∷ earlier) items r.1.1)

first_pass_yes : (kind : Kind) (system : Equations) (z : Vector) (s k : ℕ) (earlier items : List Item)
    → FirstAll kind system z earlier items → first_pass kind system z s k earlier items ≡ None
unfolding first_pass
first_pass_yes kind system z s k earlier [] h = refl
first_pass_yes kind system z s k earlier (item ∷ items) h =
    first_tests_yes kind system z earlier s k item (first_pass kind system z s (suc k) (item ∷ earlier) items) h.0.0 h.0.1
    (first_pass_yes kind system z s (suc k) (item ∷ earlier) items h.1)

-- ---- names

unnamed_at : (items : List Item) (p r : ℕ) (x : Item) → Unnamed items p r → In items x → names x p r ≡ false
unnamed_at [] p r x u m = absurd m
unnamed_at (y ∷ items) p r x u m = ⊎_elim (λ e. subst (λ i. names i p r ≡ false) e u.0) (λ k. unnamed_at items p r x u.1 k) m

unnamed_all : (items : List Item) (p r : ℕ) → ((x : Item) → In items x → names x p r ≡ false) → Unnamed items p r
unnamed_all [] p r h = tt
unnamed_all (y ∷ items) p r h = (h y (inl refl), unnamed_all items p r (λ x m. h x (inr m)))

names_turned : (a b : Item) → names a b.point b.row ≡ false → names b a.point a.row ≡ false
names_turned a b e = ⊎_elim
    (λ t. let h = named_is b a.point a.row t in
    absurd (not_unnamed (a ∷ []) a (inl refl) (subst (λ p. Unnamed (a ∷ []) p a.row) h.0
    (subst (λ r. Unnamed (a ∷ []) b.point r) h.1 (e, tt)))))
    (λ f. f) (cases_Bool (names b a.point a.row))

-- items that differ from earlier ones and from each other
abbrev Apart : List Item → List Item → Type 0
Apart earlier items = Distinct items × ((x : Item) → In earlier x → Unnamed items x.point x.row)

first_apart : (kind : Kind) (system : Equations) (z : Vector) (earlier items : List Item) → FirstAll kind system z earlier items
    → Apart earlier items
first_apart kind system z earlier [] h = (tt, λ x m. tt)
first_apart kind system z earlier (item ∷ items) h =
    let r = first_apart kind system z (item ∷ earlier) items h.1 in
    ((r.1 item (inl refl), r.0), λ x m. (names_turned x item (unnamed_at earlier item.point item.row x h.0.0.1.0 m), r.1 x (inr m)))

first_facts : (kind : Kind) (system : Equations) (z : Vector) (earlier items : List Item) → FirstAll kind system z earlier items
    → (item : Item) → In items item →
    Placed system item × (Sized system item item.low × (SecondSized kind system item × FirstOk kind system z item))
first_facts kind system z earlier [] h item m = absurd m
first_facts kind system z earlier (first ∷ items) h item m = ⊎_elim
    (λ e. subst (λ i. Placed system i × (Sized system i i.low × (SecondSized kind system i × FirstOk kind system z i))) e
    (h.0.0.0, (h.0.0.1.1.0, (h.0.0.1.1.1, h.0.1))))
    (λ k. first_facts kind system z (first ∷ earlier) items h.1 item k) m

first_all : (kind : Kind) (system : Equations) (z : Vector) (earlier items : List Item) → Apart earlier items →
    ((item : Item) → In items item → Placed system item × (Sized system item item.low
    × (SecondSized kind system item × FirstOk kind system z item))) → FirstAll kind system z earlier items
first_all kind system z earlier [] a h = tt
first_all kind system z earlier (item ∷ items) a h =
    let f = h item (inl refl) in
    let u : Unnamed earlier item.point item.row = unnamed_all earlier item.point item.row (λ x m. names_turned item x (a.1 x m).0) in (
      ((f.0, (u, (f.1.0, f.1.1.0))), f.1.1.1),
      first_all kind system z (item ∷ earlier) items (
        a.0.1,
        λ x m. ⊎_elim (λ e. subst (λ i. Unnamed items i.point i.row) e a.0.0)
            (λ k. (a.1 x k).1) m,
      ) (λ i m. h i (inr m)),
    )

-- ---- the second pass
abbrev SecondOk : Kind → Equations → Vector → List Item → Item → Type 0
SecondOk Plain system z all item = Unit {0}
SecondOk Jump system z all item = Lands system z (put (new_value Jump) all z) item
SecondOk Ray system z all item = Goes system z all item

second_pass_none : (kind : Kind) (system : Equations) (z : Vector) (all : List Item) (s k : ℕ) (items : List Item)
    → second_pass kind system z all s k items ≡ None → (item : Item) → In items item → SecondOk kind system z all item
unfolding second_pass
second_pass_none kind system z all s k [] e item m = absurd m
second_pass_none Plain system z all s k (first ∷ items) e item m = tt
second_pass_none Jump system z all s k (first ∷ items) e item m =
    let r = unless_none (dec_lands system z (put (new_value Jump) all z) first) (HighFault s k)
    (second_pass Jump system z all s (suc k) items) e in
    ⊎_elim (λ f. subst (Lands system z (put (new_value Jump) all z)) f r.0)
    (λ n. second_pass_none Jump system z all s (suc k) items r.1 item n) m
second_pass_none Ray system z all s k (first ∷ items) e item m =
    let r = unless_none (dec_goes system z all first) (RayFault s k) (second_pass Ray system z all s (suc k) items) e in
    ⊎_elim (λ f. subst (Goes system z all) f r.0) (λ n. second_pass_none Ray system z all s (suc k) items r.1 item n) m

second_pass_yes : (kind : Kind) (system : Equations) (z : Vector) (all : List Item) (s k : ℕ) (items : List Item)
    → ((item : Item) → In items item → SecondOk kind system z all item) → second_pass kind system z all s k items ≡ None
unfolding second_pass
second_pass_yes kind system z all s k [] h = refl
second_pass_yes Plain system z all s k (first ∷ items) h = refl
second_pass_yes Jump system z all s k (first ∷ items) h =
    unless_yes (dec_lands system z (put (new_value Jump) all z) first) (HighFault s k) (second_pass Jump system z all s (suc k) items)
    (h first (inl refl)) (second_pass_yes Jump system z all s (suc k) items (λ i m. h i (inr m)))
second_pass_yes Ray system z all s k (first ∷ items) h =
    unless_yes (dec_goes system z all first) (RayFault s k) (second_pass Ray system z all s (suc k) items) (h first (inl refl))
    (second_pass_yes Ray system z all s (suc k) items (λ i m. h i (inr m)))

-- ---- items
item_valid : (kind : Kind) (system : Equations) (z : Vector) (items : List Item) (item : Item) → Sized system item item.low
    → SecondSized kind system item → FirstOk kind system z item → SecondOk kind system z items item → ValidItem kind system z items item
item_valid Plain system z items item a b f s = record { size = a; runs = f.0; above = f.1.0; reached = f.1.1 }
item_valid Jump system z items item a b f s =
    record {
      low_size = a;
      high_size = b;
      bound = f.0.0;
      finite = f.0.1;
      low_runs = f.1.0;
      low_above = subst (λ v. v <ᴱ fin (item_value system item (word item.low))) f.0.1 f.1.1;
      rises = subst (λ v. v ≤ᴱ fin item.number) f.0.1 s.0;
      high_runs = s.1.0;
      high_reaches = s.1.1;
    }
item_valid Ray system z items item a b f s =
    record {
      low_size = a;
      direction_size = b;
      below_top = f.0;
      low_runs = f.1.0;
      low_above = f.1.1;
      rate = s.0;
      named = s.1.0;
      others = λ r row c e u h. s.1.1.0 r row e u (c, h);
      falls = s.1.1.1.0;
      gains = s.1.1.1.1;
    }

item_first : (kind : Kind) (system : Equations) (z : Vector) (items : List Item) (item : Item) → ValidItem kind system z items item →
    Sized system item item.low × (SecondSized kind system item × (FirstOk kind system z item × SecondOk kind system z items item))
item_first Plain system z items item v = (v.size, (tt, ((v.runs, (v.above, v.reached)), tt)))
item_first Jump system z items item v = (
  v.low_size,
  (
    v.high_size,
    (
      ((v.bound, v.finite), (v.low_runs, subst (λ b. b <ᴱ fin (item_value system item (word item.low))) (sym v.finite) v.low_above)),
      (subst (λ b. b ≤ᴱ fin item.number) (sym v.finite) v.rises, (v.high_runs, v.high_reaches)),
    ),
  ),
)
item_first Ray system z items item v = (
  v.low_size,
  (
    v.direction_size,
    (
      (v.below_top, (v.low_runs, v.low_above)),
      (v.rate, (v.named, ((λ r row e u f. v.others r row f.0 e u f.1), (v.falls, v.gains)))),
    ),
  ),
)

-- a step has no fault exactly where it is valid
pub step_fault_none : (system : Equations) (z : Vector) (s : ℕ) (step : Step) → (step_fault system z s step ≡ None)
    ↔ ValidStep system z step
unfolding step_fault
step_fault_none system z s step = (
  (λ e.
      let r = and_then_none (first_pass step.kind system z s 0 [] step.items) (second_pass step.kind system z step.items s 0 step.items)
      e in
      let f = first_pass_none step.kind system z s 0 [] step.items r.0 in
      record {
        distinct = (first_apart step.kind system z [] step.items f).0;
        placed = λ i m. (first_facts step.kind system z [] step.items f i m).0;
        valid = λ i m. let a = first_facts step.kind system z [] step.items f i m in
            item_valid step.kind system z step.items i a.1.0 a.1.1.0 a.1.1.1
            (second_pass_none step.kind system z step.items s 0 step.items r.1 i m);
      }),
  (λ v. and_then_yes (first_pass step.kind system z s 0 [] step.items) (second_pass step.kind system z step.items s 0 step.items)
      (first_pass_yes step.kind system z s 0 [] step.items (first_all step.kind system z [] step.items (v.distinct, λ x m. absurd m)
      (λ i m. let a = item_first step.kind system z step.items i (v.valid i m) in (v.placed i m, (a.0, (a.1.0, a.1.1.0))))))
      (second_pass_yes step.kind system z step.items s 0 step.items (λ i m.
      (item_first step.kind system z step.items i (v.valid i m)).1.1.1))),
)
