-- The turn at a ray of the joint problem: its items meet the tests of a ray step.
use Rattle.std.proofs.Common.{◌≡◌, ◌∙◌, ◌⊎◌, inl, inr, ⊎_elim, ℕ, Bool, true, false, true≢false, List, [], ◌∷◌, length, get_or, refl, sym}
use Rattle.std.proofs.Common.{ap, subst, if◌then◌else◌}
use Rattle.std.specs.Prelude.{ℤ, slice_get, Some, T}
use Rattle.std.proofs.lemmas.Option.{slice_get-get_or}
use Rattle.base_facts.specs.Elements.{In}
use Rattle.base_numbers.specs.Rational.{ℚ, zero_ℚ, lt_ℚ, ◌≤ℚ◌, ◌<ℚ◌}
use Rattle.base_numbers.specs.Extended.{fin}
use Rattle.base_numbers.proofs.rational.Laws.{≤ℚ_trans, le_of_eq_ℚ, le_of_not_lt_ℚ}
use Rattle.flow_systems.specs.Equations.{Equations, Vector}
use Rattle.theory_validity.specs.Words.{Word, lin, start_form, end_form, Falls}
use Rattle.theory_validity.specs.Steps.{Item, edge_of, row_of, names, Unnamed, Distinct, Sized, word, Placed}
use Rattle.lp_theory.specs.Problem.{IsUnbounded}
use Rattle.theory_transformers.specs.JointProblems.{Listed, picked, own_row, columns_of, is_at, rise_at, joint_problem, joint_words}
use Rattle.theory_transformers.specs.JointProblems.{AllRising, Follows, AllFollow}
use Rattle.theory_transformers.specs.JointPoints.{Unlisted}
use Rattle.theory_transformers.specs.JointSteps.{pieces}
use Rattle.theory_transformers.proofs.joint_problems.Rises.{is_at_itself, listed_or_not, rise_unlisted}
use Rattle.theory_transformers.proofs.joint_problems.JointLists.{rising_at}
use Rattle.theory_transformers.proofs.joint_problems.JointRay.{ray_rises, ray_follows}
use Rattle.theory_transformers.proofs.joint_problems.JointLows.{AllSized, word_pieces, pieces_sized}
use Rattle.theory_transformers.proofs.joint_problems.RaySteps.{sized_words}
use Rattle.theory_strategy.specs.Growth.{split, with_words}
use Rattle.theory_strategy.specs.Round.{SameItem, RayFacts}
use Rattle.theory_rounds.specs.JointItems.{listed_item, listed_items, rate_items}
use Rattle.theory_rounds.proofs.joint_items.ListedItems.{in_listed, of_listed, apart_items}

-- the item of a ray for an unknown
abbrev rate_item : ℕ → (ℕ → ℕ → ℚ) → Item → Word → Item
rate_item n rate u direction = with_words u u.low (split n direction) (rate u.point u.row)

test_true : (a b : ℚ) → lt_ℚ a b ≡ true → a <ℚ b
test_true a b e = record { lt = subst T (sym e) tt }

test_false : (a b : ℚ) → lt_ℚ a b ≡ false → b ≤ℚ a
test_false a b e = le_of_not_lt_ℚ (λ h. subst T e h.lt)

-- what an item of the ray is made of
record Made (system : Equations) (b : Vector) (rate : ℕ → ℕ → ℚ) (all : List Listed) (rates : ℕ → ℚ) (list : List Item) (item : Item) :
    Type 0 where
  unknown : Item
  listed : In list unknown
  direction : Word
  is : rate_item system.variables rate unknown direction ≡ item
  positive : zero_ℚ <ℚ rate unknown.point unknown.row
  sized : length direction ≡ columns_of system (listed_item unknown)
  follows : Follows system b all rates (listed_item unknown) direction

rate_made : (system : Equations) (b : Vector) (rate : ℕ → ℕ → ℚ) (all : List Listed) (rates : ℕ → ℚ) (list : List Item)
    (directions : List Word) → AllSized system (listed_items list) directions →
    AllFollow system b all rates (listed_items list) directions → (item : Item) → In (rate_items system.variables rate list directions) item
    → Made system b rate all rates list item
unfolding rate_items listed_items
rate_made system b rate all rates [] directions si fo item m = absurd m
rate_made system b rate all rates (u ∷ list) [] si fo item m = absurd si
rate_made system b rate all rates (u ∷ list) (d ∷ directions) si fo item m =
    by (lt_ℚ zero_ℚ (rate u.point u.row)) refl m
    (λ k. let h = rate_made system b rate all rates list directions si.1 fo.1 item k in
    record {
      unknown = h.unknown;
      listed = inr h.listed;
      direction = h.direction;
      is = h.is;
      positive = h.positive;
      sized =
          h.sized;
      follows = h.follows;
    })
  where
    by : (t : Bool) → lt_ℚ zero_ℚ (rate u.point u.row) ≡ t →
        In (if t then rate_item system.variables rate u d ∷ rate_items system.variables rate list directions else rate_items
        system.variables rate list directions) item →
        (In (rate_items system.variables rate list directions) item → Made system b rate all rates (u ∷ list) item)
        → Made system b rate all rates (u ∷ list) item
    by true e m k = ⊎_elim
        (λ f. record {
          unknown = u;
          listed = inl refl;
          direction = d;
          is = f;
          positive = test_true zero_ℚ (rate u.point u.row) e;
          sized =
              si.0;
          follows = fo.0;
        })
        k m
    by false e m k = k m

-- an unknown whose rate is above 0 has an item
rate_covers : (system : Equations) (rate : ℕ → ℕ → ℚ) (list : List Item) (directions : List Word)
    → AllSized system (listed_items list) directions → (u : Item) → In list u → zero_ℚ <ℚ rate u.point u.row →
    (v : Item) × In (rate_items system.variables rate list directions) v × (v.point ≡ u.point) × (v.row ≡ u.row)
unfolding rate_items listed_items with_words
rate_covers system rate [] directions si u m h = absurd m
rate_covers system rate (v ∷ list) [] si u m h = absurd si
rate_covers system rate (v ∷ list) (d ∷ directions) si u m h =
    by (lt_ℚ zero_ℚ (rate v.point v.row)) refl m (λ k. rate_covers system rate list directions si.1 u k h)
  where
    by : (t : Bool) → lt_ℚ zero_ℚ (rate v.point v.row) ≡ t → (v ≡ u) ⊎ In list u →
        (In list u → (w : Item) × In (rate_items system.variables rate list directions) w × (w.point ≡ u.point) × (w.row ≡ u.row)) →
        (w : Item) × In (if t then rate_item system.variables rate v d
        ∷ rate_items system.variables rate list directions else rate_items system.variables rate list directions) w
        × (w.point ≡ u.point) × (w.row ≡ u.row)
    by true e (inl f) k = (rate_item system.variables rate v d, inl refl, ap (λ (s : Item). s.point) f, ap (λ (s : Item). s.row) f)
    by true e (inr j) k = let r = k j in (r.0, inr r.1, r.2, r.3)
    by false e (inl f) k = absurd (subst T (subst (λ (s : Item). lt_ℚ zero_ℚ (rate s.point s.row) ≡ false) f e) h.lt)
    by false e (inr j) k = k j

-- an unknown that no item names has no rate above 0
unnamed_rate : (system : Equations) (rate : ℕ → ℕ → ℚ) (list : List Item) (directions : List Word)
    → AllSized system (listed_items list) directions → (u : Item) → In list u →
    Unnamed (rate_items system.variables rate list directions) u.point u.row → rate u.point u.row ≤ℚ zero_ℚ
unfolding rate_items listed_items with_words names is_at
unnamed_rate system rate [] directions si u m n = absurd m
unnamed_rate system rate (v ∷ list) [] si u m n = absurd si
unnamed_rate system rate (v ∷ list) (d ∷ directions) si u m n =
    by (lt_ℚ zero_ℚ (rate v.point v.row)) refl n m (λ k o. unnamed_rate system rate list directions si.1 u k o)
  where
    by : (t : Bool) → lt_ℚ zero_ℚ (rate v.point v.row) ≡ t →
        Unnamed (if t then rate_item system.variables rate v d ∷ rate_items system.variables rate list directions else rate_items
        system.variables rate list directions) u.point u.row → (v ≡ u) ⊎ In list u →
        (In list u → Unnamed (rate_items system.variables rate list directions) u.point u.row → rate u.point u.row ≤ℚ zero_ℚ)
        → rate u.point u.row ≤ℚ zero_ℚ
    by true e o (inl f) k = absurd (true≢false (sym (is_at_itself (listed_item u))
        ∙ subst (λ (s : Item). is_at (listed_item s) u.point u.row ≡ false) f o.0))
    by true e o (inr j) k = k j o.1
    by false e o (inl f) k = subst (λ (s : Item). rate s.point s.row ≤ℚ zero_ℚ) f (test_false zero_ℚ (rate v.point v.row) e)
    by false e o (inr j) k = k j o

rate_unnamed : (n : ℕ) (rate : ℕ → ℕ → ℚ) (list : List Item) (directions : List Word) (p r : ℕ) → Unnamed list p r
    → Unnamed (rate_items n rate list directions) p r
unfolding rate_items with_words names
rate_unnamed n rate [] directions p r h = tt
rate_unnamed n rate (u ∷ list) [] p r h = tt
rate_unnamed n rate (u ∷ list) (d ∷ directions) p r h = by (lt_ℚ zero_ℚ (rate u.point u.row)) (rate_unnamed n rate list directions p r h.1)
  where
    by : (t : Bool) → Unnamed (rate_items n rate list directions) p r →
        Unnamed (if t then rate_item n rate u d ∷ rate_items n rate list directions else rate_items n rate list directions) p r
    by true k = (h.0, k)
    by false k = k

rate_distinct : (n : ℕ) (rate : ℕ → ℕ → ℚ) (list : List Item) (directions : List Word) → Distinct list
    → Distinct (rate_items n rate list directions)
unfolding rate_items with_words
rate_distinct n rate [] directions d = tt
rate_distinct n rate (u ∷ list) [] d = tt
rate_distinct n rate (u ∷ list) (e ∷ directions) d = by (lt_ℚ zero_ℚ (rate u.point u.row)) (rate_distinct n rate list directions d.1)
  where
    by : (t : Bool) → Distinct (rate_items n rate list directions) → Distinct
        (if t then rate_item n rate u e ∷ rate_items n rate list directions else rate_items n rate list directions)
    by true k = (rate_unnamed n rate list directions u.point u.row d.0, k)
    by false k = k

same_words : (u : Item) (n : ℕ) (rate : ℕ → ℕ → ℚ) (d : Word) → SameItem u (rate_item n rate u d)
unfolding with_words
same_words u n rate d = record { point = refl; row = refl; edge = refl; low = refl }

module _ (system : Equations) (b : Vector) (list : List Item) (x d : ℕ → ℚ) (rising : AllRising system b (listed_items list))
    (distinct : Distinct list) (placed : (u : Item) → In list u → Placed system u)
    (unbounded : IsUnbounded (joint_problem system b (listed_items list)) x d) where
  abbrev all : List Listed
  all = listed_items list

  abbrev rate : ℕ → ℕ → ℚ
  rate = rise_at all d

  abbrev items : List Item
  items = rate_items system.variables rate list (joint_words system all d)

  made : (item : Item) → In items item → Made system b rate all d list item
  made item m = rate_made system b rate all d list (joint_words system all d) (sized_words system all d)
      (ray_follows system b all x d unbounded) item m

  -- what is known of an item of the ray
  record Follower (item : Item) : Type 0 where
    size : Sized system item item.second
    rated : zero_ℚ <ℚ item.number
    named : (other : Item) → In items other → other.point ≡ (edge_of system item).from
        → lin (start_form system.variables (row_of system other)) (word item.second) ≤ℚ other.number
    others : (r : ℕ) (row : List ℤ) (bound : ℚ) → slice_get system.template r ≡ Some row → Unnamed items (edge_of system item).from r
        → b (edge_of system item).from r ≡ fin bound →
        lin (start_form system.variables row) (word item.second) ≤ℚ zero_ℚ
    falls : Falls system.variables (edge_of system item).actions (word item.second)
    gains : item.number ≤ℚ lin (end_form system.variables (edge_of system item).actions (row_of system item)) (word item.second)

  -- a listed source unknown rises at most by its rate
  other_named : (u : Item) (e : Word) → Follows system b all d (listed_item u) e → (other : Item) → In items other
      → other.point ≡ (picked system (listed_item u)).from →
      lin (start_form system.variables (row_of system other)) e ≤ℚ other.number
  unfolding with_words row_of
  other_named u e fo other m at = by (made other m)
    where
      at_source : (v : Item) → In list v → v.point ≡ (picked system (listed_item u)).from
          → lin (start_form system.variables (get_or system.template v.row [])) e ≤ℚ rate v.point v.row
      at_source v n f =
          let h = rising_at system b all (listed_item v) rising (in_listed list v n) in
          subst (λ s. lin (start_form system.variables (get_or system.template v.row [])) e ≤ℚ rate s v.row) (sym f)
          (fo.still v.row (get_or system.template v.row []) h.bound (slice_get-get_or system.template v.row [] (placed v n).row_within)
          (subst (λ s. b s v.row ≡ fin h.bound) f h.finite))

      by : Made system b rate all d list other → lin (start_form system.variables (get_or system.template other.row [])) e ≤ℚ other.number
      by k = subst (λ (s : Item). lin (start_form system.variables (get_or system.template s.row [])) e ≤ℚ s.number) k.is
          (at_source k.unknown k.listed (ap (λ (s : Item). s.point) k.is ∙ at))

  other_still : (u : Item) (e : Word) → Follows system b all d (listed_item u) e → (r : ℕ) (row : List ℤ) (bound : ℚ)
      → slice_get system.template r ≡ Some row → Unnamed items (picked system (listed_item u)).from r →
      b (picked system (listed_item u)).from r ≡ fin bound → lin (start_form system.variables row) e ≤ℚ zero_ℚ
  other_still u e fo r row bound g n f = ≤ℚ_trans (fo.still r row bound g f) (none (listed_or_not all from r))
    where
      from : ℕ
      from = (picked system (listed_item u)).from

      none : ((v : Listed) × In all v × (v.point ≡ from) × (v.row ≡ r)) ⊎ Unlisted all from r → rate from r ≤ℚ zero_ℚ
      none (inr o) = le_of_eq_ℚ (rise_unlisted all d from r o)
      none (inl v) =
          let i = of_listed list v.0 v.1 in
          let p : i.0.point ≡ from = ap (λ (s : Listed). s.point) i.2 ∙ v.2 in
          let q : i.0.row ≡ r = ap (λ (s : Listed). s.row) i.2 ∙ v.3 in
          subst (λ s. rate from s ≤ℚ zero_ℚ) q (subst (λ s. rate s i.0.row ≤ℚ zero_ℚ) p
          (unnamed_rate system rate list (joint_words system all d) (sized_words system all d) i.0 i.1
          (subst (λ s. Unnamed items i.0.point s) (sym q) (subst (λ s. Unnamed items s r) (sym p) n))))

  follower : (u : Item) (e : Word) → In list u → zero_ℚ <ℚ rate u.point u.row → length e ≡ columns_of system (listed_item u)
      → Follows system b all d (listed_item u) e → Follower (rate_item system.variables rate u e)
  unfolding with_words split pieces edge_of row_of picked own_row columns_of
  follower u e m positive size fo =
      let n = system.variables in
      record {
        size = pieces_sized system (listed_item u) e size;
        rated = positive;
        named = λ other k at. subst (λ s. lin (start_form n (row_of system other)) s ≤ℚ other.number) (sym (word_pieces n e))
            (other_named u e fo other k at);
        others = λ r row bound g o f. subst (λ s. lin (start_form n row) s ≤ℚ zero_ℚ) (sym (word_pieces n e))
            (other_still u e fo r row bound g o f);
        falls = subst (λ s. Falls n (edge_of system u).actions s) (sym (word_pieces n e)) fo.falls;
        gains = subst (λ s. rate u.point u.row ≤ℚ lin (end_form n (edge_of system u).actions (row_of system u)) s) (sym (word_pieces n e))
            fo.gains;
      }

  follower_is : (item : Item) → In items item → Follower item
  follower_is item m = let h = made item m in subst Follower h.is (follower h.unknown h.direction h.listed h.positive h.sized h.follows)

  first_item : (v : Item) × In items v
  first_item =
      let r = ray_rises system b all x d (apart_items list distinct) unbounded in
      let i = of_listed list r.0 r.1 in
      let c = rate_covers system rate list (joint_words system all d) (sized_words system all d) i.0 i.1
      (subst (λ (s : Listed). zero_ℚ <ℚ rate s.point s.row) (sym i.2) r.2) in
      (c.0, c.1)

  -- the facts of the turn
  pub ray_turn : RayFacts system b list items
  ray_turn = record {
    distinct = rate_distinct system.variables rate list (joint_words system all d) distinct;
    listed = λ item m. let h = made item m in (
      h.unknown,
      h.listed,
      subst (SameItem h.unknown) h.is
          (same_words h.unknown system.variables rate h.direction),
    );
    first = first_item.0;
    some = first_item.1;
    size = λ item m. (follower_is item m).size;
    rate = λ item m. (follower_is item m).rated;
    named = λ item m. (follower_is item m).named;
    others = λ item m. (follower_is item m).others;
    falls = λ item m. (follower_is item m).falls;
    gains = λ item m. (follower_is item m).gains;
  }
