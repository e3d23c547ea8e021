-- The tests of a ray alone are those of the theory.
use Rattle.std.proofs.Common.{◌≡◌, ◌∙◌, ◌⊎◌, inl, inr, ⊎_elim, ℕ, suc, Bool, true, false, List, [], ◌∷◌, ◌++◌, map, get_or, append_assoc}
use Rattle.std.proofs.Common.{refl, sym, ap, subst, subst₂}
use Rattle.std.specs.Prelude.{ℤ, None, Some, slice_get}
use Rattle.std.proofs.lemmas.Option.{slice_get-get_or, get_or_from_slice_get}
use Rattle.base_facts.specs.Elements.{In}
use Rattle.base_numbers.specs.Rational.{ℚ, zero_ℚ, ◌≤ℚ◌}
use Rattle.base_numbers.specs.Extended.{Ext, neg_inf, fin, pos_inf, ◌≤ᴱ◌}
use Rattle.flow_systems.specs.States.{dotℚ}
use Rattle.flow_systems.specs.Equations.{Equations, Vector, Fits}
use Rattle.flow_systems.specs.FitTests.{fit_operations}
use Rattle.flow_systems.specs.TraceTests.{trace_operations}
use Rattle.theory_validity.specs.Words.{Word, lin, start_form, end_form, start_of}
use Rattle.flow_systems.specs.Constants.{linear_action}
use Rattle.theory_validity.specs.Steps.{word, Item, Ray, edge_of, row_of, names, put, Placed, Unnamed, Distinct}
use Rattle.theory_validity.specs.Decide.{dec_and, dec_le_ℚ, dec_lt_ℚ, dec_falls}
use Rattle.theory_validity.specs.Faults.{RayFault, unless, Named as IsNamed, first_pass, RiseNamed, RiseOther, dec_goes}
use Rattle.theory_validity.proofs.steps.Puts.{named_is, named_or_not, not_unnamed, put-named, put-unnamed}
use Rattle.theory_validity.proofs.words.WordLaws.{start-coeffs}
use Rattle.cert_checker.specs.Events.{Event, Test, sums, decided, first_fault}
use Rattle.cert_checker.specs.Runs.{dec_fits, fit_events}
use Rattle.cert_checker.specs.StepEvents.{at_item, allowance, allowances, carry_events, going_events}
use Rattle.cert_checker.proofs.names.Passed.{first_named}
use Rattle.cert_checker.proofs.law.EvidenceTests.{sums_then, test_then, unless_pair}

-- ---- where the direction may rise
module _ (system : Equations) (z : Vector) (items : List Item) (item : Item) (apart : Distinct items)
    (placed : (other : Item) → In items other → Placed system other) where
  abbrev d : Word
  d = word item.second

  abbrev Allowed : Type 0
  Allowed = Fits system (allowances items z) (edge_of system item).from (start_of system.variables d)

  abbrev Named : Type 0
  Named = (other : Item) → In items other → RiseNamed system items item other

  abbrev Others : Type 0
  Others = (r : ℕ) (row : List ℤ) → slice_get system.template r ≡ Some row → RiseOther system z items item r row

  slope : (row : List ℤ) → lin (start_form system.variables row) d ≡ dotℚ row (start_of system.variables d)
  slope row = start-coeffs system.variables row d

  row_there : (other : Item) → In items other → slice_get system.template other.row ≡ Some (row_of system other)
  unfolding row_of
  row_there other m = slice_get-get_or system.template other.row [] (placed other m).row_within

  named_rises : Allowed → Named
  named_rises h other m e =
      let rate : put (λ i. fin i.number) items (λ p r. allowance (z p r)) (edge_of system item).from other.row ≡ fin other.number =
      subst (λ p. put (λ i. fin i.number) items (λ p r. allowance (z p r)) p other.row ≡ fin other.number) e
      (put-named (λ i. fin i.number) items (λ p r. allowance (z p r)) other apart m) in
      let k : fin (dotℚ (row_of system other) (start_of system.variables d)) ≤ᴱ fin other.number =
      subst (λ v. fin (dotℚ (row_of system other) (start_of system.variables d)) ≤ᴱ v) rate
      (h other.row (row_of system other) (row_there other m)) in
      subst (λ x. x ≤ℚ other.number) (sym (slope (row_of system other))) k

  others_stay : Allowed → Others
  others_stay h r row e u f =
      let free : put (λ i. fin i.number) items (λ p r. allowance (z p r)) (edge_of system item).from r ≡ fin zero_ℚ =
      put-unnamed (λ i. fin i.number) items (λ p r. allowance (z p r)) (edge_of system item).from r u ∙ ap allowance f.1 in
      let k : fin (dotℚ row (start_of system.variables d)) ≤ᴱ fin zero_ℚ =
      subst (λ v. fin (dotℚ row (start_of system.variables d)) ≤ᴱ v) free (h r row e) in
      subst (λ x. x ≤ℚ zero_ℚ) (sym (slope row)) k

  stays : (v : Ext) (x : ℚ) → ((c : ℚ) × (v ≡ fin c) → x ≤ℚ zero_ℚ) → fin x ≤ᴱ allowance v
  stays neg_inf x h = tt
  stays (fin c) x h = h (c, refl)
  stays pos_inf x h = tt

  allowed : Named → Others → Allowed
  unfolding row_of
  allowed n o r row e = ⊎_elim
      (λ h.
      let here : row_of system h.0 ≡ row = row_is h.0 h.3 in
      let rate : put (λ i. fin i.number) items (λ p r. allowance (z p r)) (edge_of system item).from r ≡ fin h.0.number =
      subst₂ (λ p s. put (λ i. fin i.number) items (λ p r. allowance (z p r)) p s ≡ fin h.0.number) h.2 h.3
      (put-named (λ i. fin i.number) items (λ p r. allowance (z p r)) h.0 apart h.1) in
      let k : dotℚ (row_of system h.0) (start_of system.variables d) ≤ℚ h.0.number =
      subst (λ x. x ≤ℚ h.0.number) (slope (row_of system h.0)) (n h.0 h.1 h.2) in
      let j : dotℚ row (start_of system.variables d) ≤ℚ h.0.number = subst (λ w. dotℚ w (start_of system.variables d) ≤ℚ h.0.number) here
      k in
      subst (λ v. fin (dotℚ row (start_of system.variables d)) ≤ᴱ v) (sym rate) j)
      (λ u.
      subst (λ v. fin (dotℚ row (start_of system.variables d)) ≤ᴱ v) (sym
      (put-unnamed (λ i. fin i.number) items (λ p r. allowance (z p r)) (edge_of system item).from r u))
      (stays (z (edge_of system item).from r) (dotℚ row (start_of system.variables d))
      (λ f. subst (λ x. x ≤ℚ zero_ℚ) (slope row) (o r row e u f))))
      (named_or_not items (edge_of system item).from r)
    where
      row_is : (other : Item) → other.row ≡ r → row_of system other ≡ row
      row_is other f = ap (λ k. get_or system.template k []) f ∙ get_or_from_slice_get system.template r row [] e

  -- the direction of an item
  pub going_then : (s k : ℕ) (es : List Event) → first_fault (going_events system z items s k item ++ es)
      ≡ unless (dec_goes system z items item) (RayFault s k) (first_fault es)
  unfolding going_events carry_events fit_events
  going_then s k es =
      let f = RayFault s k in
      let next = first_fault es in
      let edge = edge_of system item in
      let rate = dec_lt_ℚ zero_ℚ item.number in
      let fitted = dec_fits system (allowances items z) edge.from (start_of system.variables d) in
      let falls = dec_falls system edge d in
      let gains = dec_le_ℚ item.number (lin (end_form system.variables edge.actions (row_of system item)) d) in
      let fit = sums (at_item s k) (fit_operations system.template (allowances items z edge.from) 0 (start_of system.variables d)) in
      let follow = sums (at_item s k) (trace_operations (map linear_action edge.actions) item.second.start item.second.free
      (row_of system item)) in
      let head = fit ++ Test (decided fitted) f ∷ [] in
      let tail = follow ++ Test (decided falls) f ∷ [] in
      let last = Test (decided gains) f ∷ es in
      test_then rate f (((head ++ tail) ++ Test (decided gains) f ∷ []) ++ es)
      ∙ ap (unless rate f)
      (ap first_fault (append_assoc (head ++ tail) (Test (decided gains) f ∷ []) es ∙ append_assoc head tail last
      ∙ append_assoc fit (Test (decided fitted) f ∷ []) (tail ++ last))
      ∙ sums_then (at_item s k) (fit_operations system.template (allowances items z edge.from) 0 (start_of system.variables d))
      (Test (decided fitted) f ∷ (tail ++ last))
      ∙ test_then fitted f (tail ++ last)
      ∙ ap (unless fitted f)
      (ap first_fault (append_assoc follow (Test (decided falls) f ∷ []) last)
      ∙ sums_then (at_item s k) (trace_operations (map linear_action edge.actions) item.second.start item.second.free (row_of system item))
      (Test (decided falls) f ∷ last)
      ∙ test_then falls f last
      ∙ ap (unless falls f) (test_then gains f es)
      ∙ unless_pair (dec_and falls gains) falls gains f next (λ h. h.0) (λ h. h.1) (λ a b. (a, b)))
      ∙ unless_pair (dec_and fitted (dec_and falls gains)) fitted (dec_and falls gains) f next (λ h. h.0) (λ h. h.1) (λ a b. (a, b)))
      ∙ unless_pair (dec_goes system z items item) rate (dec_and fitted (dec_and falls gains)) f next (λ h. h.0)
      (λ h. (allowed h.1.0 h.1.1.0, h.1.1.1)) (λ a b. (a, (named_rises b.0, (others_stay b.0, b.1))))

-- ---- a ray whose items pass
truth : (b : Bool) → (b ≡ true) ⊎ (b ≡ false)
truth true = inl refl
truth false = inr refl

names_turned : (a b : Item) → names a b.point b.row ≡ false → names b a.point a.row ≡ false
names_turned a b e = ⊎_elim
    (λ t. let h = named_is b a.point a.row t in
    absurd (not_unnamed (a ∷ []) a (inl refl) (subst (λ p. Unnamed (a ∷ []) p a.row) h.0
    (subst (λ r. Unnamed (a ∷ []) b.point r) h.1 (e, tt)))))
    (λ f. f) (truth (names b a.point a.row))

unnamed_at : (items : List Item) (p r : ℕ) (x : Item) → Unnamed items p r → In items x → names x p r ≡ false
unnamed_at [] p r x u m = absurd m
unnamed_at (y ∷ items) p r x u m = ⊎_elim (λ e. subst (λ i. names i p r ≡ false) e u.0) (λ k. unnamed_at items p r x u.1 k) m

abbrev AllNamed : Equations → List Item → List Item → Type 0
AllNamed system earlier [] = Unit {0}
AllNamed system earlier (item ∷ items) = IsNamed Ray system earlier item × AllNamed system (item ∷ earlier) items

all_named : (system : Equations) (z : Vector) (s k : ℕ) (earlier items : List Item) → first_pass Ray system z s k earlier items ≡ None
    → AllNamed system earlier items
unfolding first_pass
all_named system z s k earlier [] e = tt
all_named system z s k earlier (item ∷ items) e =
    let r = first_named Ray system z earlier s k item (first_pass Ray system z s (suc k) (item ∷ earlier) items) e in
    (r.0, all_named system z s (suc k) (item ∷ earlier) items r.1)

apart_from : (system : Equations) (earlier items : List Item) → AllNamed system earlier items
    → Distinct items × ((x : Item) → In earlier x → Unnamed items x.point x.row)
apart_from system earlier [] h = (tt, λ x m. tt)
apart_from system earlier (item ∷ items) h =
    let r = apart_from system (item ∷ earlier) items h.1 in
    ((r.1 item (inl refl), r.0), λ x m. (names_turned x item (unnamed_at earlier item.point item.row x h.0.1.0 m), r.1 x (inr m)))

placed_all : (system : Equations) (earlier items : List Item) → AllNamed system earlier items → (item : Item) → In items item
    → Placed system item
placed_all system earlier [] h item m = absurd m
placed_all system earlier (first ∷ items) h item m = ⊎_elim (λ e. subst (Placed system) e h.0.0)
    (λ k. placed_all system (first ∷ earlier) items h.1 item k) m

-- its items name different unknowns, and each is placed
pub ray_apart : (system : Equations) (z : Vector) (s : ℕ) (items : List Item) → first_pass Ray system z s 0 [] items ≡ None
    → Distinct items × ((item : Item) → In items item → Placed system item)
ray_apart system z s items e =
    let h = all_named system z s 0 [] items e in ((apart_from system [] items h).0, placed_all system [] items h)
