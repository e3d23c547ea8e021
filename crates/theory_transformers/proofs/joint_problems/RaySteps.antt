-- A ray of a joint problem gives a valid ray step at the base, of the unknowns whose rate is above 0.
use Rattle.std.proofs.Common.{◌≡◌, ◌∙◌, ◌⊎◌, inl, inr, ⊎_elim, ℕ, false, true≢false, List, [], ◌∷◌, length, get_or, refl, sym, ap, subst}
use Rattle.std.proofs.lemmas.Option.{slice_get-get_or}
use Rattle.base_facts.specs.Elements.{In}
use Rattle.base_numbers.specs.Rational.{ℚ, zero_ℚ, ◌≤ℚ◌, ◌<ℚ◌}
use Rattle.base_numbers.specs.Extended.{fin, pos_inf, ◌<ᴱ◌}
use Rattle.base_numbers.proofs.rational.Laws.{≤ℚ_trans, le_of_eq_ℚ, le_or_lt}
use Rattle.flow_systems.specs.Equations.{Equations, Vector}
use Rattle.theory_validity.specs.Words.{Word, lin, start_form, end_form, Falls}
use Rattle.theory_validity.specs.Steps.{Runs, end_value, Item, Kind, Ray, Step, edge_of, row_of, names, Placed, Unnamed, RayItem, ValidStep}
use Rattle.lp_theory.specs.Problem.{IsUnbounded}
use Rattle.theory_transformers.specs.JointProblems.{Listed, picked, own_row, columns_of, is_at, rise_at, joint_problem, joint_words}
use Rattle.theory_transformers.specs.JointProblems.{AllRising, Follows, AllFollow}
use Rattle.theory_transformers.specs.JointPoints.{Unlisted, Distinct}
use Rattle.theory_transformers.specs.JointSteps.{Low, AllLow, AllPicked, item_of, ray_items}
use Rattle.theory_transformers.proofs.joint_problems.Rises.{is_at_itself, listed_or_not, rise_unlisted}
use Rattle.theory_transformers.proofs.joint_problems.JointLists.{rising_at}
use Rattle.theory_transformers.proofs.joint_problems.JointRay.{ray_follows}
use Rattle.theory_transformers.proofs.joint_problems.JointLows.{word_pieces, pieces_sized, AllSized, words_sized, item_placed, picked_at}

-- what an item of the ray is made of
pub record Made (system : Equations) (b : Vector) (rate : ℕ → ℕ → ℚ) (all list : List Listed) (rates : ℕ → ℚ) (item : Item) : Type 0 where
  -- the item's unknown
  pub unknown : Listed
  -- the unknown is a member of the list
  pub listed : In list unknown
  -- the item's low word
  pub low : Word
  -- the item's direction
  pub direction : Word
  -- the item is made of these and of the unknown's rate
  pub is : item ≡ item_of system.variables unknown low direction (rate unknown.point unknown.row)
  -- the unknown's rate is above 0
  pub positive : zero_ℚ <ℚ rate unknown.point unknown.row
  -- the low word is one of the unknown
  pub low_is : Low system b unknown low
  -- the direction has a value for each column
  pub sized : length direction ≡ columns_of system unknown
  -- the direction keeps to the rates
  pub follows : Follows system b all rates unknown direction

made_more : (system : Equations) (b : Vector) (rate : ℕ → ℕ → ℚ) (all list : List Listed) (u : Listed) (rates : ℕ → ℚ) (item : Item)
    → Made system b rate all list rates item → Made system b rate all (u ∷ list) rates item
made_more system b rate all list u rates item m =
    record {
      unknown = m.unknown;
      listed = inr m.listed;
      low = m.low;
      direction = m.direction;
      is = m.is;
      positive = m.positive;
      low_is =
          m.low_is;
      sized = m.sized;
      follows = m.follows;
    }

ray_made : (system : Equations) (b : Vector) (rate : ℕ → ℕ → ℚ) (all list : List Listed) (rates : ℕ → ℚ) (ls ds : List Word)
    → AllLow system b list ls → AllSized system list ds → AllFollow system b all rates list ds →
    (item : Item) → In (ray_items system.variables rate list ls ds) item → Made system b rate all list rates item
unfolding ray_items
ray_made system b rate all [] rates ls ds lo si fo item m = absurd m
ray_made system b rate all (u ∷ rest) rates [] ds lo si fo item m = absurd lo
ray_made system b rate all (u ∷ rest) rates (l ∷ ls) [] lo si fo item m = absurd si
ray_made system b rate all (u ∷ rest) rates (l ∷ ls) (d ∷ ds) lo si fo item m =
    by (le_or_lt (rate u.point u.row) zero_ℚ) m (λ k. made_more system b rate all rest u rates item
    (ray_made system b rate all rest rates ls ds lo.1 si.1 fo.1 item k))
  where
    by : (t : (rate u.point u.row ≤ℚ zero_ℚ) ⊎ (zero_ℚ <ℚ rate u.point u.row)) →
        In (⊎_elim (λ h. ray_items system.variables rate rest ls ds) (λ h. item_of system.variables u l d (rate u.point u.row)
        ∷ ray_items system.variables rate rest ls ds) t) item →
        (In (ray_items system.variables rate rest ls ds) item → Made system b rate all (u ∷ rest) rates item)
        → Made system b rate all (u ∷ rest) rates item
    by (inl h) m k = k m
    by (inr h) m k = ⊎_elim
        (λ e. record {
          unknown = u;
          listed = inl refl;
          low = l;
          direction = d;
          is = sym e;
          positive = h;
          low_is = lo.0;
          sized =
              si.0;
          follows = fo.0;
        })
        k m

-- an unknown that no item names has no rate above 0
unnamed_rate : (system : Equations) (b : Vector) (rate : ℕ → ℕ → ℚ) (list : List Listed) (ls ds : List Word) → AllLow system b list ls
    → AllSized system list ds → (u : Listed) → In list u →
    Unnamed (ray_items system.variables rate list ls ds) u.point u.row → rate u.point u.row ≤ℚ zero_ℚ
unfolding ray_items item_of names is_at
unnamed_rate system b rate [] ls ds lo si u m n = absurd m
unnamed_rate system b rate (v ∷ rest) [] ds lo si u m n = absurd lo
unnamed_rate system b rate (v ∷ rest) (l ∷ ls) [] lo si u m n = absurd si
unnamed_rate system b rate (v ∷ rest) (l ∷ ls) (d ∷ ds) lo si u m n =
    by (le_or_lt (rate v.point v.row) zero_ℚ) n m (λ k o. unnamed_rate system b rate rest ls ds lo.1 si.1 u k o)
  where
    by : (t : (rate v.point v.row ≤ℚ zero_ℚ) ⊎ (zero_ℚ <ℚ rate v.point v.row)) →
        Unnamed (⊎_elim (λ h. ray_items system.variables rate rest ls ds)
        (λ h. item_of system.variables v l d (rate v.point v.row) ∷ ray_items system.variables rate rest ls ds) t) u.point u.row
        → (v ≡ u) ⊎ In rest u →
        (In rest u → Unnamed (ray_items system.variables rate rest ls ds) u.point u.row → rate u.point u.row ≤ℚ zero_ℚ)
        → rate u.point u.row ≤ℚ zero_ℚ
    by (inl h) o (inl e) k = subst (λ s. rate s.point s.row ≤ℚ zero_ℚ) e h
    by (inl h) o (inr j) k = k j o
    by (inr h) o (inl e) k = absurd (true≢false (sym (is_at_itself u) ∙ subst (λ s. is_at s u.point u.row ≡ false) e o.0))
    by (inr h) o (inr j) k = k j o.1

ray_unnamed : (system : Equations) → (rate : ℕ → ℕ → ℚ) (list : List Listed) (ls ds : List Word) (p r : ℕ) → Unlisted list p r
    → Unnamed (ray_items system.variables rate list ls ds) p r
unfolding ray_items item_of names is_at
ray_unnamed system rate [] ls ds p r n = tt
ray_unnamed system rate (u ∷ rest) [] ds p r n = tt
ray_unnamed system rate (u ∷ rest) (l ∷ ls) [] p r n = tt
ray_unnamed system rate (u ∷ rest) (l ∷ ls) (d ∷ ds) p r n = by (le_or_lt (rate u.point u.row) zero_ℚ)
    (ray_unnamed system rate rest ls ds p r n.1)
  where
    by : (t : (rate u.point u.row ≤ℚ zero_ℚ) ⊎ (zero_ℚ <ℚ rate u.point u.row)) → Unnamed (ray_items system.variables rate rest ls ds) p r →
        Unnamed (⊎_elim (λ h. ray_items system.variables rate rest ls ds)
        (λ h. item_of system.variables u l d (rate u.point u.row) ∷ ray_items system.variables rate rest ls ds) t) p r
    by (inl h) k = k
    by (inr h) k = (n.0, k)

ray_distinct : (system : Equations) → (rate : ℕ → ℕ → ℚ) (list : List Listed) (ls ds : List Word) → Distinct list
    → Rattle.theory_validity.specs.Steps.Distinct (ray_items system.variables rate list ls ds)
unfolding ray_items item_of
ray_distinct system rate [] ls ds h = tt
ray_distinct system rate (u ∷ rest) [] ds h = tt
ray_distinct system rate (u ∷ rest) (l ∷ ls) [] h = tt
ray_distinct system rate (u ∷ rest) (l ∷ ls) (d ∷ ds) h = by (le_or_lt (rate u.point u.row) zero_ℚ)
    (ray_distinct system rate rest ls ds h.1) (ray_unnamed system rate rest ls ds u.point u.row h.0)
  where
    by : (t : (rate u.point u.row ≤ℚ zero_ℚ) ⊎ (zero_ℚ <ℚ rate u.point u.row))
        → Rattle.theory_validity.specs.Steps.Distinct (ray_items system.variables rate rest ls ds)
        → Unnamed (ray_items system.variables rate rest ls ds) u.point u.row →
        Rattle.theory_validity.specs.Steps.Distinct (⊎_elim (λ h. ray_items system.variables rate rest ls ds)
        (λ h. item_of system.variables u l d (rate u.point u.row) ∷ ray_items system.variables rate rest ls ds) t)
    by (inl i) k n = k
    by (inr i) k n = (n, k)

-- the ray step of a joint problem's ray
abbrev pub joint_ray : Equations → List Listed → (ℕ → ℚ) → List Word → Step
joint_ray system list d ls = record { kind = Ray; items = ray_items system.variables (rise_at list d) list ls (joint_words system list d) }

one_item : (system : Equations) (b : Vector) (list : List Listed) (x d : ℕ → ℚ) (ls : List Word) → AllRising system b list
    → AllPicked system list → AllLow system b list ls → IsUnbounded (joint_problem system b list) x d →
    (items : List Item) → items ≡ ray_items system.variables (rise_at list d) list ls (joint_words system list d)
    → AllSized system list (joint_words system list d) →
    (u : Listed) (l e : Word) → In list u → zero_ℚ <ℚ rise_at list d u.point u.row → Low system b u l → length e ≡ columns_of system u
    → Follows system b list d u e → RayItem system b items (item_of system.variables u l e (rise_at list d u.point u.row))
unfolding item_of edge_of row_of picked own_row columns_of
one_item system b list x d ls rising pick lo un items it si u l e m pos low size fo = record {
  low_size = pieces_sized system u l low.size;
  direction_size = pieces_sized system u e size;
  below_top = subst (λ s. s <ᴱ pos_inf) (sym (rising_at system b list u rising m).finite) tt;
  low_runs = subst (λ s. Runs system b (picked system u) s) (sym (word_pieces system.variables l)) low.runs;
  low_above = subst (λ s. b u.point u.row <ᴱ fin (end_value system (picked system u) (own_row system u) s))
      (sym (word_pieces system.variables l)) low.above;
  rate = pos;
  named = λ other k at. subst (λ s. lin (start_form system.variables (get_or system.template other.row [])) s ≤ℚ other.number)
      (sym (word_pieces system.variables e)) (named other k at);
  others = λ r row bound g n f. subst (λ s. lin (start_form system.variables row) s ≤ℚ zero_ℚ) (sym (word_pieces system.variables e))
      (≤ℚ_trans (fo.still r row bound g f) (none r (listed_or_not list (picked system u).from r) n));
  falls = subst (λ s. Falls system.variables (picked system u).actions s) (sym (word_pieces system.variables e)) fo.falls;
  gains = subst (λ s. rise_at list d u.point u.row ≤ℚ lin (end_form system.variables (picked system u).actions (own_row system u)) s)
      (sym (word_pieces system.variables e)) fo.gains;
}
  where
    from_made : (other : Item) → Made system b (rise_at list d) list list d other → other.point ≡ (picked system u).from
        → lin (start_form system.variables (get_or system.template other.row [])) e ≤ℚ other.number
    from_made other k at =
        let v = k.unknown in
        let i = ap (λ (s : Item). s.row) k.is in
        let j = ap (λ (s : Item). s.point) k.is in
        let h = rising_at system b list v rising k.listed in
        let p = picked_at system list v pick k.listed in
        let r = fo.still v.row (get_or system.template v.row []) h.bound (slice_get-get_or system.template v.row [] p.row_within)
        (subst (λ s. b s v.row ≡ fin h.bound) (sym j ∙ at) h.finite) in
        subst (λ s. lin (start_form system.variables (get_or system.template s [])) e ≤ℚ other.number) (sym i)
        (subst (λ s. lin (start_form system.variables (get_or system.template v.row [])) e ≤ℚ s)
        (ap (λ s. rise_at list d s v.row) (sym at ∙ j) ∙ sym (ap (λ (s : Item). s.number) k.is)) r)

    named : (other : Item) → In items other → other.point ≡ (picked system u).from
        → lin (start_form system.variables (get_or system.template other.row [])) e ≤ℚ other.number
    named other k at = from_made other (ray_made system b (rise_at list d) list list d ls (joint_words system list d) lo si
        (ray_follows system b list x d un) other (subst (λ s. In s other) it k)) at

    none : (r : ℕ) → ((v : Listed) × In list v × (v.point ≡ (picked system u).from) × (v.row ≡ r)) ⊎ Unlisted list (picked system u).from r
        → Unnamed items (picked system u).from r →
        rise_at list d (picked system u).from r ≤ℚ zero_ℚ
    none r (inr n) o = le_of_eq_ℚ (rise_unlisted list d (picked system u).from r n)
    none r (inl v) o =
        subst (λ s. rise_at list d s r ≤ℚ zero_ℚ) v.2 (subst (λ s. rise_at list d v.0.point s ≤ℚ zero_ℚ) v.3
        (unnamed_rate system b (rise_at list d) list ls (joint_words system list d) lo si v.0 v.1
        (subst (λ s. Unnamed s v.0.point v.0.row) it (subst (λ s. Unnamed items v.0.point s) (sym v.3)
        (subst (λ s. Unnamed items s r) (sym v.2) o)))))

-- the words of a direction have a value for each column
pub sized_words : (system : Equations) (list : List Listed) (d : ℕ → ℚ) → AllSized system list (joint_words system list d)
unfolding joint_words
sized_words system list d = words_sized system list _

-- it is valid
pub joint_ray_valid : (system : Equations) (b : Vector) (list : List Listed) (x d : ℕ → ℚ) (ls : List Word) → AllRising system b list
    → Distinct list → AllPicked system list → AllLow system b list ls →
    IsUnbounded (joint_problem system b list) x d → ValidStep system b (joint_ray system list d ls)
joint_ray_valid system b list x d ls rising distinct pick lo un =
    record {
      distinct = ray_distinct system (rise_at list d) list ls (joint_words system list d) distinct;
      placed = λ item m. let k = made item m in subst (λ s. Placed system s) (sym k.is)
          (item_placed system k.unknown k.low k.direction (rise_at list d k.unknown.point k.unknown.row)
          (picked_at system list k.unknown pick k.listed));
      valid = λ item m. let k = made item m in subst (λ s. RayItem system b items s) (sym k.is)
          (one_item system b list x d ls rising pick lo un items refl (sized_words system list d) k.unknown k.low k.direction k.listed
          k.positive k.low_is k.sized k.follows);
    }
  where
    items : List Item
    items = ray_items system.variables (rise_at list d) list ls (joint_words system list d)

    made : (item : Item) → In items item → Made system b (rise_at list d) list list d item
    made item m = ray_made system b (rise_at list d) list list d ls (joint_words system list d) lo (sized_words system list d)
        (ray_follows system b list x d un) item m
