-- Items by their places, and the unknowns that they name.
use Rattle.std.proofs.Common.{◌≡◌, ◌≢◌, ◌∙◌, ◌↔◌, ⊎_elim, ℕ, zero, suc, ◌+◌, ◌-◌, ◌*◌, ◌/◌, ◌%◌, ◌<◌, ◌≤◌, ◌&&◌, eqb, Bool, true, false}
use Rattle.std.proofs.Common.{true≢false, List, [], ◌∷◌, ◌++◌, length, get_or, drop, refl, sym, ap, ap₂, subst, add-one, arith}
use Rattle.std.proofs.Common.{if◌then◌else◌}
use Rattle.std.specs.Prelude.{Some, None, slice_set, slice_get}
use Rattle.std.proofs.lemmas.Nat.{div-mul-add, mod-mul-add}
use Rattle.std.proofs.Math.Nat.{div-add-mod, mul-le-mul_right}
use Rattle.std.proofs.lemmas.Option.{slice_get-get_or}
use Rattle.std.proofs.lemmas.Bool.{cases_lt}
use Rattle.std.proofs.Math.Seq.{drop-cons}
use Rattle.std.proofs.lemmas.Bool.Decides.{eqb_tells}
use Rattle.std.proofs.lemmas.List.{length-map, length-set, get_or-set_same, get_or-set_other, drop_all}
use native.Mathlib.Decide.{ℕ_discrete, dec_lt}
use Rattle.base_numbers.specs.Extended.{Ext, neg_inf, fin}
use Rattle.flow_edges.specs.declared.edge.Edge.{Edge}
use Rattle.cert_types.specs.declared.step.RayItem.{RayItem}
use Rattle.cert_types.specs.declared.step.Step.{Step}
use Rattle.cert_types.specs.declared.step.Step.TheVariants.{Plain, Jump, Ray}
use Rattle.cert_types.specs.Certificates.{plain_item, jump_item, ray_item, step_of}
use Rattle.flow_systems.specs.Equations.{Equations, Vector}
use Rattle.theory_validity.specs.Steps.{Item, Kind, edge_of, row_of, names, put, new_value, Unnamed, Placed}
use Rattle.theory_validity.proofs.steps.Puts.{named_is}
use Rattle.cert_checker.specs.declared.fault.CheckFault.{CheckFault}
use Rattle.cert_checker.specs.Events.{first_stop}
use Rattle.cert_checker.specs.Stands.{Stands}
use Rattle.cert_checker.specs.Items.{item_count, no_item, earlier_items}
use Rattle.cert_checker.specs.StepEvents.{allowance, first_events, first_pass_events, second_events, second_pass_events}
use Rattle.cert_checker.proofs.following.Traces.{stop_sooner, stop_later}

-- a step has as many items as the step that it stands for
pub items_count : (rows : ℕ) (step : Step) → length (step_of rows step).items ≡ item_count step
items_count rows (Plain items) = length-map items (plain_item rows)
items_count rows (Jump items) = length-map items (jump_item rows)
items_count rows (Ray items) = length-map items (ray_item rows)

-- the kind is the same whatever the rows
pub kind_same : (m n : ℕ) (step : Step) → (step_of m step).kind ≡ (step_of n step).kind
kind_same m n (Plain items) = refl
kind_same m n (Jump items) = refl
kind_same m n (Ray items) = refl

-- ---- a pass as far as its first items have passed
module _ (kind : Kind) (system : Equations) (z : Vector) (s : ℕ) (items : List Item) where
  -- what is left from item i on
  abbrev pub FirstLeft : ℕ → Type 0
  FirstLeft i = first_stop (first_pass_events kind system z s 0 [] items)
      ≡ first_stop (first_pass_events kind system z s i (earlier_items items i) (drop i items))

  module _ (i : ℕ) (l : i < length items) (h : FirstLeft i) where
    first_left : FirstLeft i → first_stop (first_pass_events kind system z s 0 [] items)
        ≡ first_stop (first_events kind system z s i (earlier_items items i) (get_or items i no_item)
        ++ first_pass_events kind system z s (suc i) (earlier_items items (suc i)) (drop (suc i) items))
    unfolding first_pass_events earlier_items
    first_left k = k ∙ ap (λ is. first_stop (first_pass_events kind system z s i (earlier_items items i) is)) (drop-cons items i no_item l)

    -- where the first pass doesn't stop at an item, the next items are left
    pub first_more : first_stop (first_events kind system z s i (earlier_items items i) (get_or items i no_item)) ≡ None → FirstLeft (i + 1)
    first_more e =
        first_left h ∙ stop_later (first_events kind system z s i (earlier_items items i) (get_or items i no_item))
        (first_pass_events kind system z s (suc i) (earlier_items items (suc i)) (drop (suc i) items)) e
        ∙ ap (λ j. first_stop (first_pass_events kind system z s j (earlier_items items j) (drop j items))) (sym (add-one i))

    -- where the first pass stops at an item, the whole pass stops there
    pub first_stops : (f : CheckFault) → first_stop (first_events kind system z s i (earlier_items items i) (get_or items i no_item))
        ≡ Some f → first_stop (first_pass_events kind system z s 0 [] items) ≡ Some f
    first_stops f e =
        first_left h ∙ stop_sooner (first_events kind system z s i (earlier_items items i) (get_or items i no_item))
        (first_pass_events kind system z s (suc i) (earlier_items items (suc i)) (drop (suc i) items)) f e

  -- at first all items are left to the first pass
  pub first_none : FirstLeft 0
  unfolding earlier_items
  first_none = refl

  -- where the first pass has passed all items, nothing stops
  pub first_all : (i : ℕ) → length items ≤ i → FirstLeft i → first_stop (first_pass_events kind system z s 0 [] items) ≡ None
  unfolding first_stop first_pass_events
  first_all i l h = h ∙ ap (λ is. first_stop (first_pass_events kind system z s i (earlier_items items i) is)) (drop_all i items l)

  -- ---- the second pass
  -- what the second pass leaves from item i on
  abbrev pub SecondLeft : ℕ → Type 0
  SecondLeft i = first_stop (second_pass_events kind system z items s 0 items)
      ≡ first_stop (second_pass_events kind system z items s i (drop i items))

  module _ (i : ℕ) (l : i < length items) (h : SecondLeft i) where
    second_left : first_stop (second_pass_events kind system z items s 0 items)
        ≡ first_stop (second_events kind system z items s i (get_or items i no_item)
        ++ second_pass_events kind system z items s (suc i) (drop (suc i) items))
    unfolding second_pass_events
    second_left = h ∙ ap (λ is. first_stop (second_pass_events kind system z items s i is)) (drop-cons items i no_item l)

    -- where the second pass doesn't stop at an item, the next items are left
    pub second_more : first_stop (second_events kind system z items s i (get_or items i no_item)) ≡ None → SecondLeft (i + 1)
    second_more e =
        second_left ∙ stop_later (second_events kind system z items s i (get_or items i no_item))
        (second_pass_events kind system z items s (suc i) (drop (suc i) items)) e
        ∙ ap (λ j. first_stop (second_pass_events kind system z items s j (drop j items))) (sym (add-one i))

    -- where the second pass stops at an item, the whole pass stops there
    pub second_stops : (f : CheckFault) → first_stop (second_events kind system z items s i (get_or items i no_item)) ≡ Some f
        → first_stop (second_pass_events kind system z items s 0 items) ≡ Some f
    second_stops f e = second_left ∙ stop_sooner (second_events kind system z items s i (get_or items i no_item))
        (second_pass_events kind system z items s (suc i) (drop (suc i) items)) f e

  -- at first all items are left to the second pass
  pub second_none : SecondLeft 0
  second_none = refl

  -- where the second pass has passed all items, nothing stops
  pub second_all : (i : ℕ) → length items ≤ i → SecondLeft i → first_stop (second_pass_events kind system z items s 0 items) ≡ None
  unfolding first_stop second_pass_events
  second_all i l h = h ∙ ap (λ is. first_stop (second_pass_events kind system z items s i is)) (drop_all i items l)

-- ---- bounds that are set
eqb_yes : (a b : ℕ) → a ≡ b → eqb a b ≡ true
eqb_yes a b e = ⊎_elim (λ h. h.0) (λ h. absurd (h.1 e)) (eqb_tells a b)

-- what an equality test tells
pub eqb_out : (a b : ℕ) → eqb a b ≡ true → a ≡ b
eqb_out a b e = ⊎_elim (λ h. h.1) (λ h. absurd (true≢false (sym e ∙ h.0))) (eqb_tells a b)

-- an item with this unknown names it, and no other unknown that is there
module _ (rows : ℕ) (item : Item) (u : ℕ) (point : item.point ≡ u / rows) (row : item.row ≡ u % rows) (p r : ℕ) (l : r < rows) where
  names_yes : u ≡ p * rows + r → names item p r ≡ true
  unfolding names
  names_yes e =
      ap₂ (λ a b. a && b) (eqb_yes item.point p (point ∙ ap (λ v. v / rows) e ∙ div-mul-add p rows r l))
      (eqb_yes item.row r (row ∙ ap (λ v. v % rows) e ∙ mod-mul-add p rows r l))

  -- an item with another unknown doesn't name this one
  pub names_no : u ≢ p * rows + r → names item p r ≡ false
  names_no n = by (names item p r) refl
    where
      by : (b : Bool) → names item p r ≡ b → b ≡ false
      by true e =
          let h = named_is item p r e in
          let a = div-add-mod u rows in
          let q : u / rows ≡ p = sym point ∙ h.0 in
          let m : u % rows ≡ r = sym row ∙ h.1 in
          let t : rows * (u / rows) ≡ rows * p = ap (λ v. rows * v) q in
          absurd (n (omega (arith, a, m, t)))
      by false e = refl

-- an unknown that is there has a number below their count
pub number_below : (a c w r : ℕ) → a < c → r < w → a * w + r < c * w
number_below a c w r i j =
    let m : (a + 1) * w ≤ c * w = mul-le-mul_right w (let k : a + 1 ≤ c = omega arith in k) in
    let n : (a + 1) * w ≡ a * w + w = omega arith in
    omega (arith, m, n, j)

-- one more item in place
pub placed_more : (system : Equations) (b : List Ext) (z : Vector) (value : Item → Ext) (item : Item) (items : List Item) (u : ℕ) (v : Ext)
    → item.point ≡ u / length system.template → item.row ≡ u % length system.template → v ≡ value item →
    Stands system b (put value items z) → Stands system (slice_set b u v) (put value (item ∷ items) z)
unfolding put
placed_more system b z value item items u v point row e h = record {
  size = length-set b u v ∙ h.size;
  at = λ p r k l. by p r k l (ℕ_discrete u (p * length system.template + r));
}
  where
    by : (p r : ℕ) → p < system.points → r < length system.template → Dec (u ≡ p * length system.template + r) →
        get_or (slice_set b u v) (p * length system.template + r) neg_inf ≡ (if names item p r then value item else put value items z p r)
    by p r k l (yes q) =
        let n = p * length system.template + r in
        subst (λ j. get_or (slice_set b j v) n neg_inf ≡ v) (sym q) (get_or-set_same b n v neg_inf
        (let s = h.size in let m = number_below p system.points (length system.template) r k l in omega (arith, s, m)))
        ∙ e ∙ sym (ap (λ t. if t then value item else put value items z p r) (names_yes (length system.template) item u point row p r l q))
    by p r k l (no q) =
        let n = p * length system.template + r in
        let d : n ≢ u = λ t. q (sym t) in
        get_or-set_other b u n v neg_inf d ∙ h.at p r k l ∙ sym (ap (λ t. if t then value item else put value items z p r)
        (names_no (length system.template) item u point row p r l q))

-- ---- placed items
-- what an item's edge and row are
pub edge_is : (system : Equations) (item : Item) (edge : ℕ) (e : Edge) → item.edge ≡ edge → edge < length system.edges
    → e ≡ get_or system.edges edge e → edge_of system item ≡ e
unfolding edge_of
edge_is system item edge e q l is =
    let d = get_or system.edges edge (record { from = 0; to = 0; actions = [] }) in
    let a : slice_get system.edges edge ≡ Some d = slice_get-get_or system.edges edge (record { from = 0; to = 0; actions = [] }) l in
    let b : slice_get system.edges edge ≡ Some (get_or system.edges edge e) = slice_get-get_or system.edges edge e l in
    let c : d ≡ get_or system.edges edge e = cc in
    ap (λ i. get_or system.edges i (record { from = 0; to = 0; actions = [] })) q ∙ c ∙ sym is

-- an edge that is found
pub edge_found : (system : Equations) (item : Item) → item.edge < length system.edges
    → slice_get system.edges item.edge ≡ Some (edge_of system item)
unfolding edge_of
edge_found system item l = slice_get-get_or system.edges item.edge (record { from = 0; to = 0; actions = [] }) l

-- a row that is found
pub row_found : (system : Equations) (item : Item) → item.row < length system.template
    → slice_get system.template item.row ≡ Some (row_of system item)
unfolding row_of
row_found system item l = slice_get-get_or system.template item.row [] l

-- a number at a point after the entry
after_entry : (u rows : ℕ) → rows ≤ u → 0 < rows → 0 < u / rows
after_entry u rows l h = by (u / rows) refl
  where
    by : (n : ℕ) → u / rows ≡ n → 0 < n
    by zero e =
        let a = div-add-mod u rows in
        let m : rows * (u / rows) ≡ rows * 0 = ap (λ n. rows * n) e in
        absurd (omega (arith, a, m, l, h))
    by (suc n) e = omega arith

-- and before the end
pub point_below : (u points rows : ℕ) → u < points * rows → u / rows < points
point_below u points rows high = by (dec_lt (u / rows) points)
  where
    by : Dec (u / rows < points) → u / rows < points
    by (yes l) = l
    by (no n) =
        let a = div-add-mod u rows in
        let m : points * rows ≤ u / rows * rows = mul-le-mul_right rows (let j : points ≤ u / rows = omega (arith, n) in j) in
        absurd (omega (arith, a, m, high))

module _ (system : Equations) (item : Item) (u edge : ℕ) (point : item.point ≡ u / length system.template)
    (row : item.row ≡ u % length system.template) (same : item.edge ≡ edge) (some : 0 < length system.template) where
  -- where they are, the edge decides
  pub placed_iff : length system.template ≤ u → u < system.points * length system.template → edge < length system.edges → (e : Edge)
      → e ≡ get_or system.edges edge e → (e.to ≡ u / length system.template) ↔ Placed system item
  placed_iff low high there e is = (
    (λ t. record {
      later = subst (λ n. 0 < n) (sym point) (after_entry u (length system.template) low some);
      point_within = subst (λ n. n < system.points) (sym point) below;
      row_within = let k : u % length system.template < length system.template = omega (arith, some) in
          subst (λ n. n < length system.template) (sym row) k;
      edge_within = subst (λ n. n < length system.edges) (sym same) there;
      into = ap (λ x. x.to) (edge_is system item edge e same there is) ∙ t ∙ sym point;
    }),
    (λ h. ap (λ x. x.to) (sym (edge_is system item edge e same there is)) ∙ h.into ∙ point),
  )
    where
      below : u / length system.template < system.points
      below = point_below u system.points (length system.template) high

-- ---- earlier items
-- an earlier item that names an unknown
pub not_earlier : (items : List Item) (k j : ℕ) (p r : ℕ) → j < k → names (get_or items j no_item) p r ≡ true
    → ¬ (Unnamed (earlier_items items k) p r)
unfolding earlier_items
not_earlier items zero j p r l e u = absurd (omega arith)
not_earlier items (suc k) j p r l e u = ⊎_elim (λ h. not_earlier items k j p r h e u.1)
    (λ h. true≢false (sym e ∙ ap (λ i. names (get_or items i no_item) p r) (let q : j ≡ k = omega (arith, h, l) in q) ∙ u.0)) (cases_lt j k)

-- one more that doesn't
pub earlier_more : (items : List Item) (j p r : ℕ) → names (get_or items j no_item) p r ≡ false → Unnamed (earlier_items items j) p r
    → Unnamed (earlier_items items (j + 1)) p r
unfolding earlier_items
earlier_more items j p r e u = subst (λ n. Unnamed (earlier_items items n) p r) (sym (add-one j)) (e, u)

-- ---- bounds that are set from the last item on
-- before any new bound is set, the bounds stand for the vector that the step finds
pub settled_none : (system : Equations) (b : List Ext) (z : Vector) (value : Item → Ext) (items : List Item) (n : ℕ) → length items ≤ n
    → Stands system b z → Stands system b (put value (drop n items) z)
unfolding put
settled_none system b z value items n l h = subst (λ is. Stands system b (put value is z)) (sym (drop_all n items l)) h

-- one more
pub settled_more : (system : Equations) (b : List Ext) (z : Vector) (value : Item → Ext) (items : List Item) (k u : ℕ) (v : Ext) → 0 < k
    → k ≤ length items → (get_or items (k - 1) no_item).point ≡ u / length system.template →
    (get_or items (k - 1) no_item).row ≡ u % length system.template → v ≡ value (get_or items (k - 1) no_item)
    → Stands system b (put value (drop k items) z) → Stands system (slice_set b u v) (put value (drop (k - 1) items) z)
settled_more system b z value items zero u v a l point row e h = absurd (omega arith)
settled_more system b z value items (suc m) u v a l point row e h =
    let q : suc m - 1 ≡ m = omega arith in
    let i : m < length items = omega (arith, l) in
    subst (λ n. Stands system (slice_set b u v) (put value (drop n items) z)) (sym q)
    (subst (λ is. Stands system (slice_set b u v) (put value is z)) (sym (drop-cons items m no_item i))
    (placed_more system b z value (get_or items m no_item) (drop (suc m) items) u v
    (subst (λ n. (get_or items n no_item).point ≡ u / length system.template) q point)
    (subst (λ n. (get_or items n no_item).row ≡ u % length system.template) q row) (subst (λ n. v ≡ value (get_or items n no_item)) q e) h))

-- the number of an item of a step that is no ray
pub number_is : (step : Step) (rows : ℕ) (item : Item) → ((x : List RayItem) → step ≡ Ray x → ⊥)
    → new_value (step_of rows step).kind item ≡ fin item.number
unfolding new_value
number_is (Plain items) rows item n = refl
number_is (Jump items) rows item n = refl
number_is (Ray items) rows item n = absurd (n items refl)

-- the rates that a vector leaves free
pub rates_start : (system : Equations) (base rates : List Ext) (z : Vector) → Stands system base z → length rates ≡ length base
    → ((u : ℕ) → u < length base → get_or rates u neg_inf ≡ allowance (get_or base u neg_inf)) →
    Stands system rates (λ p r. allowance (z p r))
rates_start system base rates z h e f = record {
  size = e ∙ h.size;
  at = λ p r k l. f (p * length system.template + r) (let s = h.size in
      let m = number_below p system.points (length system.template) r k l in omega (arith, s, m)) ∙ ap allowance (h.at p r k l);
}
