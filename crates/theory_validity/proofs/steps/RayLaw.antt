-- A valid ray leads to a vector that is at most every greater vector that bounds its items.
use Rattle.std.proofs.Common.{◌≡◌, ◌∙◌, ◌⊎◌, inl, ⊎_elim, ℕ, List, [], ◌∷◌, refl, sym, ap, subst, subst₂}
use Rattle.std.specs.Prelude.{ℤ, slice_get, Some}
use Rattle.std.proofs.lemmas.Option.{slice_get_within, get_or_from_slice_get}
use Rattle.base_facts.specs.Elements.{In}
use Rattle.base_numbers.specs.Rational.{ℚ, zero_ℚ, one_ℚ, ◌+ℚ◌, ◌-ℚ◌, ◌*ℚ◌, ◌≤ℚ◌, ◌<ℚ◌}
use Rattle.base_numbers.specs.Extended.{Ext, neg_inf, fin, pos_inf, ◌≤ᴱ◌, ◌<ᴱ◌}
use Rattle.base_numbers.proofs.rational.Laws.{le_of_lt_ℚ, lt_of_lt_of_le_ℚ, not_le_of_lt}
use Rattle.base_numbers.proofs.extended.ExtendedLaws.{≤ᴱ_trans, ext_le_or_lt, ext_not_le_of_lt}
use Rattle.base_numbers.proofs.tactics.Linarith.{lin_lt, reads_all}
use Rattle.flow_systems.specs.States.{dotℚ}
use Rattle.flow_systems.specs.Equations.{Equations, Vector, Fits}
use Rattle.flow_edges.specs.declared.edge.Edge.{Edge}
use Rattle.theory_validity.specs.Words.{Word, lin, start_form, end_form, start_of, moved}
use Rattle.theory_validity.specs.Steps.{word, Below, Runs, end_value, Item, edge_of, row_of, Unnamed, item_value, RayItem, BoundsItems}
use Rattle.theory_validity.specs.Certificates.{num}
use Rattle.theory_validity.proofs.steps.Lists.{least_bad}
use Rattle.theory_validity.proofs.words.WordLaws.{start-moved, end-moved, passes_moved}
use Rattle.theory_validity.proofs.steps.Puts.{named_or_not, runs_below}
use Rattle.theory_validity.proofs.certificates.StepNumbers.{num-fin, time, Takes, time_is, before_time, past_time, still_le}

-- the value of a moved word at its end
pub end_value-moved : (system : Equations) (edge : Edge) (row : List ℤ) (w : Word) (s : ℚ) (d : Word) →
    end_value system edge row (moved w s d) ≡ end_value system edge row w +ℚ s *ℚ lin (end_form system.variables edge.actions row) d
unfolding end_value
end_value-moved system edge row w s d = end-moved system.variables edge.actions row w s d

-- a row that stands in the template is the row of an item with its number
pub row_of_is : (system : Equations) (item : Item) (r : ℕ) (row : List ℤ) → item.row ≡ r → slice_get system.template r ≡ Some row
    → row_of system item ≡ row
unfolding row_of
row_of_is system item r row e h = ap (λ k. Rattle.std.specs.Prelude.get_or system.template k []) e
    ∙ get_or_from_slice_get system.template r row [] h

-- an extended number above a fraction and below the greatest is a fraction
pub finite_above : (v : Ext) (b : ℚ) → fin b ≤ᴱ v → v <ᴱ pos_inf → (c : ℚ) × (v ≡ fin c) × (b ≤ℚ c)
finite_above neg_inf b h i = absurd h
finite_above (fin c) b h i = (c, refl, h)
finite_above pos_inf b h i = absurd i

-- the bound that a ray starts from: the old one, or a number below the low word's value
unfoldable pub base : Ext → ℚ → ℚ
base neg_inf e = e -ℚ one_ℚ
base (fin b) e = b
base pos_inf e = e -ℚ one_ℚ

base_lt : (v : Ext) (e : ℚ) → v <ᴱ fin e → base v e <ℚ e
unfolding base
base_lt neg_inf e h = lin_lt (e ∷ []) [] (search reads_all depth 40) tt
base_lt (fin b) e h = h
base_lt pos_inf e h = absurd h

base-fin : (v : Ext) (e b : ℚ) → v ≡ fin b → base v e ≡ b
unfolding base
base-fin v e b h = ap (λ u. base u e) h

module _ (system : Equations) (z q : Vector) (items : List Item) where
  RayGood : Item → Type 0
  RayGood item = pos_inf ≤ᴱ q item.point item.row

  RayBad : Item → Type 0
  RayBad item = q item.point item.row <ᴱ pos_inf

  -- how long an item takes to meet q
  waits : Item → ℚ
  waits item = time (base (z item.point item.row) (item_value system item (word item.low))) (num (q item.point item.row)) item.number

  -- what is known of a bad item
  record Late (item : Item) : Type 0 where
    limit : ℚ
    new : q item.point item.row ≡ fin limit
    low : base (z item.point item.row) (item_value system item (word item.low)) <ℚ item_value system item (word item.low)
    takes : Takes (base (z item.point item.row) (item_value system item (word item.low))) limit item.number (waits item)

  late : (item : Item) → In items item → Below system z q → BoundsItems system q items → RayItem system z items item → RayBad item
      → Late item
  unfolding waits RayBad
  late item m below bounds valid bad =
      let low = bounds item m (word item.low) (runs_below system z q (edge_of system item) (word item.low) below valid.low_runs) in
      let c = finite_above (q item.point item.row) (item_value system item (word item.low)) low bad in
      let b = base (z item.point item.row) (item_value system item (word item.low)) in
      let less = base_lt (z item.point item.row) (item_value system item (word item.low)) valid.low_above in
      record {
        limit = c.0;
        new = c.1;
        low = less;
        takes = subst (λ k. Takes b c.0 item.number (time b k item.number)) (sym (num-fin (q item.point item.row) c.0 c.1))
            (time_is b c.0 item.number (le_of_lt_ℚ (lt_of_lt_of_le_ℚ less c.2)) valid.rate);
      }

  -- at a source row, the moved word is at most q
  moved_row : Below system z q → ((other : Item) → In items other → RayBad other → Late other)
      → ((item : Item) → In items item → RayItem system z items item) →
      (p r : ℕ) (row : List ℤ) → slice_get system.template r ≡ Some row → (t x : ℚ) (direction : Word) → zero_ℚ ≤ℚ t →
      ((other : Item) → In items other → RayGood other ⊎ (RayBad other × (t ≤ℚ waits other))) →
      ((other : Item) → In items other → other.point ≡ p → lin (start_form system.variables (row_of system other)) direction ≤ℚ
      other.number) →
      ((bound : ℚ) → Unnamed items p r → z p r ≡ fin bound → lin (start_form system.variables row) direction ≤ℚ zero_ℚ) →
      fin x ≤ᴱ z p r → fin (x +ℚ t *ℚ lin (start_form system.variables row) direction) ≤ᴱ q p r
  unfolding RayGood
  moved_row below lates valid p r row listed t x direction h least named_rate other_rate low =
      ⊎_elim named (λ u. unnamed u (z p r) refl) (named_or_not items p r)
    where
      unnamed : Unnamed items p r → (v : Ext) → z p r ≡ v → fin (x +ℚ t *ℚ lin (start_form system.variables row) direction) ≤ᴱ q p r
      unnamed u neg_inf e = absurd (subst (λ w. fin x ≤ᴱ w) e low)
      unnamed u (fin b) e =
          ≤ᴱ_trans (fin (x +ℚ t *ℚ lin (start_form system.variables row) direction)) (z p r) (q p r)
          (still_le t x (lin (start_form system.variables row) direction) (z p r) h (other_rate b u e) low)
          (below p r (slice_get_within system.template r row listed))
      unnamed u pos_inf e =
          ≤ᴱ_trans (fin (x +ℚ t *ℚ lin (start_form system.variables row) direction)) pos_inf (q p r) tt
          (subst (λ w. w ≤ᴱ q p r) e (below p r (slice_get_within system.template r row listed)))

      at_bad : (other : Item) → In items other → other.point ≡ p → other.row ≡ r → Late other → t ≤ℚ waits other
          → fin x ≤ᴱ z other.point other.row →
          fin (x +ℚ t *ℚ lin (start_form system.variables row) direction) ≤ᴱ q other.point other.row
      at_bad other m e f known k low' =
          let v = valid other m in
          let b = finite_above (z other.point other.row) x low' v.below_top in
          let takes = subst (λ j. Takes j known.limit other.number (waits other))
          (base-fin (z other.point other.row) (item_value system other (word other.low)) b.0 b.1) known.takes in
          let rate = subst (λ j. lin (start_form system.variables j) direction ≤ℚ other.number) (row_of_is system other r row f listed)
          (named_rate other m e) in
          subst (λ w. fin (x +ℚ t *ℚ lin (start_form system.variables row) direction) ≤ᴱ w) (sym known.new)
          (before_time t (waits other) b.0 known.limit other.number x (lin (start_form system.variables row) direction) h k takes v.rate b.2
          rate)

      named : ((other : Item) × In items other × (other.point ≡ p) × (other.row ≡ r))
          → fin (x +ℚ t *ℚ lin (start_form system.variables row) direction) ≤ᴱ q p r
      named n =
          let other = n.0 in
          ⊎_elim
          (λ good. ≤ᴱ_trans (fin (x +ℚ t *ℚ lin (start_form system.variables row) direction)) pos_inf (q p r) tt
          (subst₂ (λ s k. pos_inf ≤ᴱ q s k) n.2 n.3 good))
          (λ b. subst₂ (λ s k. fin (x +ℚ t *ℚ lin (start_form system.variables row) direction) ≤ᴱ q s k) n.2 n.3
          (at_bad other n.1 n.2 n.3 (lates other n.1 b.0) b.1 (subst₂ (λ s k. fin x ≤ᴱ z s k) (sym n.2) (sym n.3) low)))
          (least other n.1)

  -- along the direction the low word runs at every greater vector that is +∞ at the items
  pub ray_runs : Below system z q → ((item : Item) → In items item → RayItem system z items item)
      → ((item : Item) → In items item → pos_inf ≤ᴱ q item.point item.row) →
      (item : Item) → In items item → (t : ℚ) → zero_ℚ ≤ℚ t → Runs system q (edge_of system item)
      (moved (word item.low) t (word item.second))
  unfolding RayGood RayBad
  ray_runs below valid top item m t h =
      let v = valid item m in
      let edge = edge_of system item in
      record {
        passes = passes_moved system.variables edge.actions (word item.low) t (word item.second) h v.low_runs.passes v.falls;
        fits = λ r row e.
            subst (λ s. fin s ≤ᴱ q edge.from r) (sym (start-moved system.variables row (word item.low) t (word item.second)))
            (moved_row below (λ other k bad. absurd (ext_not_le_of_lt (q other.point other.row) pos_inf bad (top other k))) valid edge.from
            r row e t (dotℚ row (start_of system.variables (word item.low))) (word item.second) h
            (λ other k. inl (top other k)) v.named (λ b u f. v.others r row b e u f) (v.low_runs.fits r row e));
      }

  -- there is no bad item that meets q first
  no_first_ray : Below system z q → BoundsItems system q items → ((item : Item) → In items item → RayItem system z items item) →
      (item : Item) → In items item → RayBad item → ((other : Item) → In items other
      → RayGood other ⊎ (RayBad other × (waits item ≤ℚ waits other))) → ⊥
  no_first_ray below bounds valid item m bad least =
      let v = valid item m in
      let known = late item m below bounds v bad in
      let t = waits item in
      let edge = edge_of system item in
      let w = moved (word item.low) t (word item.second) in
      let fits : Fits system q edge.from (start_of system.variables w) = λ r row e.
      subst (λ s. fin s ≤ᴱ q edge.from r) (sym (start-moved system.variables row (word item.low) t (word item.second)))
      (moved_row below (λ other k bad. late other k below bounds (valid other k) bad) valid edge.from r row e t
      (dotℚ row (start_of system.variables (word item.low))) (word item.second) known.takes.from_zero least
      v.named (λ b u f. v.others r row b e u f) (v.low_runs.fits r row e)) in
      let runs : Runs system q edge w = record {
        passes = passes_moved system.variables edge.actions (word item.low) t (word item.second)
            known.takes.from_zero v.low_runs.passes v.falls;
        fits = fits;
      } in
      let limited = subst₂ (λ s k. fin s ≤ᴱ k) (end_value-moved system edge (row_of system item) (word item.low) t (word item.second))
      known.new (bounds item m w runs) in
      not_le_of_lt (past_time t (base (z item.point item.row) (item_value system item (word item.low))) known.limit item.number
      (item_value system item (word item.low)) (lin (end_form system.variables edge.actions (row_of system item)) (word item.second))
      known.takes known.low v.gains) limited

  -- a greater vector that bounds the items of a valid ray is +∞ at them
  pub ray_below : Below system z q → BoundsItems system q items → ((item : Item) → In items item → RayItem system z items item) →
      (item : Item) → In items item → pos_inf ≤ᴱ q item.point item.row
  unfolding RayGood RayBad
  ray_below below bounds valid =
      ⊎_elim (λ all. all) (λ f. absurd (no_first_ray below bounds valid f.0 f.1 f.2 f.3))
      (least_bad RayGood RayBad waits items (λ item m. ext_le_or_lt pos_inf (q item.point item.row)))
