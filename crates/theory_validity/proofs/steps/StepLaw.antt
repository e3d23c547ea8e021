-- A valid step leads to a vector that is at least the one before, and at most every greater vector that bounds its items.
use Rattle.std.proofs.Common.{◌≡◌, ◌∙◌, ◌⊎◌, ⊎_elim, ℕ, ◌<◌, List, length, sym, subst, subst₂}
use Rattle.std.specs.Prelude.{ℤ}
use Rattle.std.proofs.lemmas.Option.{slice_get_within}
use Rattle.base_facts.specs.Elements.{In}
use Rattle.base_numbers.specs.Rational.{ℚ, zero_ℚ, one_ℚ, ◌+ℚ◌, ◌-ℚ◌, ◌*ℚ◌, ◌≤ℚ◌, ◌<ℚ◌}
use Rattle.base_numbers.specs.Extended.{fin, pos_inf, ◌≤ᴱ◌, ◌<ᴱ◌}
use Rattle.base_numbers.proofs.rational.Laws.{le_of_lt_ℚ, not_le_of_lt}
use Rattle.base_numbers.proofs.extended.ExtendedLaws.{≤ᴱ_trans, ext_le_or_lt, ext_le_of_lt}
use Rattle.flow_systems.specs.States.{dotℚ}
use Rattle.flow_systems.specs.Equations.{Equations, Vector, Fits}
use Rattle.flow_edges.specs.declared.edge.Edge.{Edge}
use Rattle.theory_validity.specs.Words.{Word, start_of, mix}
use Rattle.theory_validity.specs.Steps.{word, Below, end_value, Upper, Item, Kind, Plain, Jump, Ray, Step, edge_of, row_of, put, new_value}
use Rattle.theory_validity.specs.Steps.{after_step, Placed, Distinct, item_value, PlainItem, JumpItem, ValidItem, ValidStep, BoundsItems}
use Rattle.theory_validity.specs.Certificates.{num}
use Rattle.theory_validity.proofs.steps.Lists.{least_bad}
use Rattle.theory_validity.proofs.words.WordLaws.{start-mix, end-mix, passes_mix}
use Rattle.theory_validity.proofs.steps.Puts.{named_or_not, put-unnamed, put-named, put_below, put_above, below_itself, runs_below}
use Rattle.theory_validity.proofs.steps.RayLaw.{ray_below}
use Rattle.theory_validity.proofs.certificates.StepNumbers.{num-fin, finite_between, mix_le, share, Part, share_is, before_share}
use Rattle.theory_validity.proofs.certificates.StepNumbers.{past_share}

-- the value of a mixed word at its end
end_value-mix : (system : Equations) (edge : Edge) (row : List ℤ) (t : ℚ) (u v : Word) →
    end_value system edge row (mix t u v) ≡ (one_ℚ -ℚ t) *ℚ end_value system edge row u +ℚ t *ℚ end_value system edge row v
unfolding end_value
end_value-mix system edge row t u v = end-mix system.variables edge.actions row t u v

-- ---- plain steps
-- the new bound of a plain item is at most the number of a vector that bounds it
plain_below : (system : Equations) (z q : Vector) (item : Item) → Below system z q → PlainItem system z item →
    Upper system q (edge_of system item) (row_of system item) (q item.point item.row) → fin item.number ≤ᴱ q item.point item.row
plain_below system z q item below valid upper =
    ≤ᴱ_trans (fin item.number) (fin (item_value system item (word item.low))) (q item.point item.row) valid.reached
    (upper (word item.low) (runs_below system z q (edge_of system item) (word item.low) below valid.runs))

-- ---- jumps
module _ (system : Equations) (z q : Vector) (items : List Item) where
  jumped : Vector
  jumped = put (new_value Jump) items z

  JumpGood : Item → Type 0
  JumpGood item = fin item.number ≤ᴱ q item.point item.row

  JumpBad : Item → Type 0
  JumpBad item = q item.point item.row <ᴱ fin item.number

  -- where on the way to its new bound an item meets q
  meets : Item → ℚ
  meets item = share (num (z item.point item.row)) (num (q item.point item.row)) item.number

  -- what is known of a bad item
  record Met (item : Item) : Type 0 where
    bound : ℚ
    old : z item.point item.row ≡ fin bound
    limit : ℚ
    new : q item.point item.row ≡ fin limit
    rises : bound ≤ℚ item.number
    part : Part bound limit item.number (meets item)

  met : (item : Item) → Below system z q → Placed system item → JumpItem system z jumped item → JumpBad item → Met item
  unfolding meets JumpBad
  met item below placed valid bad =
      let above : fin valid.bound ≤ᴱ q item.point item.row = subst (λ v. v ≤ᴱ q item.point item.row) valid.finite
      (below item.point item.row placed.row_within) in
      let c = finite_between (q item.point item.row) valid.bound item.number above bad in
      record {
        bound = valid.bound;
        old = valid.finite;
        limit = c.0;
        new = c.1;
        rises = valid.rises;
        part = subst₂ (λ b k. Part valid.bound c.0 item.number (share b k item.number))
            (sym (num-fin (z item.point item.row) valid.bound valid.finite)) (sym (num-fin (q item.point item.row) c.0 c.1))
            (share_is valid.bound c.0 item.number c.2 c.3);
      }

  -- at a source row, the mixed word is at most q
  mixed_row : Below system z q → Distinct items → ((item : Item) → In items item → Placed system item)
      → ((item : Item) → In items item → JumpItem system z jumped item) →
      (p r : ℕ) → r < length system.template → (t x y : ℚ) → zero_ℚ ≤ℚ t → t ≤ℚ one_ℚ →
      ((other : Item) → In items other → JumpGood other ⊎ (JumpBad other × (t ≤ℚ meets other))) →
      fin x ≤ᴱ z p r → fin y ≤ᴱ jumped p r → fin ((one_ℚ -ℚ t) *ℚ x +ℚ t *ℚ y) ≤ᴱ q p r
  unfolding jumped JumpGood new_value
  mixed_row below distinct placed valid p r l t x y h i least low high =
      ⊎_elim named (λ u. both (subst (λ v. fin y ≤ᴱ v) (put-unnamed (new_value Jump) items z p r u) high)) (named_or_not items p r)
    where
      -- where y is at most q's number too
      both' : fin y ≤ᴱ q p r → fin ((one_ℚ -ℚ t) *ℚ x +ℚ t *ℚ y) ≤ᴱ q p r
      both' k = mix_le t x y (q p r) h i (≤ᴱ_trans (fin x) (z p r) (q p r) low (below p r l)) k

      both : fin y ≤ᴱ z p r → fin ((one_ℚ -ℚ t) *ℚ x +ℚ t *ℚ y) ≤ᴱ q p r
      both k = both' (≤ᴱ_trans (fin y) (z p r) (q p r) k (below p r l))

      at_bad : (other : Item) → In items other → Met other → t ≤ℚ meets other → fin x ≤ᴱ z other.point other.row → fin y ≤ᴱ fin other.number
          →
          fin ((one_ℚ -ℚ t) *ℚ x +ℚ t *ℚ y) ≤ᴱ q other.point other.row
      at_bad other m known k a b =
          subst (λ v. fin ((one_ℚ -ℚ t) *ℚ x +ℚ t *ℚ y) ≤ᴱ v) (sym known.new)
          (before_share t (meets other) known.bound known.limit other.number x y h i k known.part known.rises
          (subst (λ v. fin x ≤ᴱ v) known.old a) b)

      named : ((other : Item) × In items other × (other.point ≡ p) × (other.row ≡ r)) → fin ((one_ℚ -ℚ t) *ℚ x +ℚ t *ℚ y) ≤ᴱ q p r
      named n =
          let other = n.0 in
          let high' : fin y ≤ᴱ fin other.number =
          subst (λ v. fin y ≤ᴱ v) (put-named (new_value Jump) items z other distinct n.1)
          (subst₂ (λ s k. fin y ≤ᴱ put (new_value Jump) items z s k) (sym n.2) (sym n.3) high) in
          let low' : fin x ≤ᴱ z other.point other.row = subst₂ (λ s k. fin x ≤ᴱ z s k) (sym n.2) (sym n.3) low in
          ⊎_elim
          (λ good. both' (≤ᴱ_trans (fin y) (fin other.number) (q p r) high' (subst₂ (λ s k. fin other.number ≤ᴱ q s k) n.2 n.3 good)))
          (λ b. subst₂ (λ s k. fin ((one_ℚ -ℚ t) *ℚ x +ℚ t *ℚ y) ≤ᴱ q s k) n.2 n.3
          (at_bad other n.1 (met other below (placed other n.1) (valid other n.1) b.0) b.1 low' high'))
          (least other n.1)

  -- there is no bad item that meets q first
  no_first : Below system z q → Distinct items → ((item : Item) → In items item → Placed system item)
      → ((item : Item) → In items item → JumpItem system z jumped item) →
      BoundsItems system q items → (item : Item) → In items item → JumpBad item →
      ((other : Item) → In items other → JumpGood other ⊎ (JumpBad other × (meets item ≤ℚ meets other))) → ⊥
  no_first below distinct placed valid bounds item m bad least =
      let known = met item below (placed item m) (valid item m) bad in
      let v = valid item m in
      let t = meets item in
      let edge = edge_of system item in
      let row = row_of system item in
      let under : t ≤ℚ one_ℚ = le_of_lt_ℚ known.part.below_one in
      let passes = passes_mix system.variables edge.actions t (word item.low) (word item.second) known.part.from_zero under
      v.low_runs.passes v.high_runs.passes in
      let fits : Fits system q edge.from (start_of system.variables (mix t (word item.low) (word item.second))) = λ r row e.
      subst (λ s. fin s ≤ᴱ q edge.from r) (sym (start-mix system.variables row t (word item.low) (word item.second)))
      (mixed_row below distinct placed valid edge.from r (slice_get_within system.template r row e) t
      (dotℚ row (start_of system.variables (word item.low))) (dotℚ row (start_of system.variables (word item.second)))
      known.part.from_zero under least (v.low_runs.fits r row e) (v.high_runs.fits r row e)) in
      let limited = subst₂ (λ s k. fin s ≤ᴱ k) (end_value-mix system edge row t (word item.low) (word item.second)) known.new
      (bounds item m (mix t (word item.low) (word item.second)) (record { passes = passes; fits = fits })) in
      let lower : known.bound <ℚ item_value system item (word item.low) =
      subst (λ b. b <ℚ item_value system item (word item.low)) (same_fin v.bound known.bound (sym v.finite ∙ known.old)) v.low_above in
      not_le_of_lt (past_share t known.bound known.limit item.number (item_value system item (word item.low))
      (item_value system item (word item.second)) known.part lower v.high_reaches) limited
    where
      same_fin : (a b : ℚ) → fin a ≡ fin b → a ≡ b
      same_fin a b e = cc

  -- every new bound of a valid jump is at most the number of a greater vector that bounds its items
  jump_below : Below system z q → Distinct items → ((item : Item) → In items item → Placed system item) →
      ((item : Item) → In items item → JumpItem system z (put (new_value Jump) items z) item) → BoundsItems system q items →
      (item : Item) → In items item → fin item.number ≤ᴱ q item.point item.row
  unfolding jumped JumpGood JumpBad
  jump_below below distinct placed valid bounds =
      ⊎_elim (λ all. all) (λ f. absurd (no_first below distinct placed valid bounds f.0 f.1 f.2 f.3))
      (least_bad JumpGood JumpBad meets items (λ item m. ext_le_or_lt (fin item.number) (q item.point item.row)))

-- ---- every kind
-- a step's vector is at least the one before
pub step_up : (system : Equations) (z : Vector) (step : Step) → ValidStep system z step → Below system z (after_step step z)
unfolding after_step new_value
step_up system z step v = up step.kind step.items v.valid
  where
    up : (kind : Kind) (items : List Item) → ((item : Item) → In items item → ValidItem kind system z items item)
        → Below system z (put (new_value kind) items z)
    up Plain items valid = put_above system (new_value Plain) items z z (below_itself system z)
        (λ item m. ext_le_of_lt (z item.point item.row) (fin item.number) (valid item m).above)
    up Jump items valid = put_above system (new_value Jump) items z z (below_itself system z)
        (λ item m. subst (λ k. k ≤ᴱ fin item.number) (sym (valid item m).finite) (valid item m).rises)
    up Ray items valid = put_above system (new_value Ray) items z z (below_itself system z)
        (λ item m. ext_le_of_lt (z item.point item.row) pos_inf (valid item m).below_top)

-- a step's vector is at most every greater vector that bounds the step's items
pub step_below : (system : Equations) (z q : Vector) (step : Step) → ValidStep system z step → Below system z q
    → BoundsItems system q step.items → Below system (after_step step z) q
unfolding after_step new_value
step_below system z q step v below bounds = by step.kind step.items v.distinct v.placed v.valid bounds
  where
    by : (kind : Kind) (items : List Item) → Distinct items → ((item : Item) → In items item → Placed system item) →
        ((item : Item) → In items item → ValidItem kind system z items item) → BoundsItems system q items
        → Below system (put (new_value kind) items z) q
    by Plain items d placed valid b = put_below system (new_value Plain) items z q below
        (λ item m. plain_below system z q item below (valid item m) (b item m))
    by Jump items d placed valid b = put_below system (new_value Jump) items z q below
        (λ item m. jump_below system z q items below d placed valid b item m)
    by Ray items d placed valid b = put_below system (new_value Ray) items z q below
        (λ item m. ray_below system z q items below b valid item m)
