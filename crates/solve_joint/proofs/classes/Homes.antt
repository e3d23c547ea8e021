-- Unknowns in one part, by the homes of their points.
use Rattle.std.proofs.Common.{◌≡◌, ◌∙◌, ◌⊎◌, inl, inr, ⊎_elim, ℕ, zero, suc, ◌+◌, ◌<◌, ◌≤◌, ◌==◌, Bool, true, false, true≢false}
use Rattle.std.proofs.Common.{List, [], ◌∷◌, length, get_or, map, refl, sym, ap, subst, arith}
use Rattle.std.proofs.lemmas.Bool.{cases_lt, eqb-true}
use Rattle.std.proofs.lemmas.Bool.Decides.{eqb_tells}
use Rattle.std.proofs.lemmas.List.FromFn.{get_or-map-range_with_len}
use Rattle.base_facts.specs.Elements.{In}
use Rattle.solve_joint.specs.declared.node.Node.{Node}
use Rattle.solve_joint.specs.Numbers.{Rises}
use Rattle.solve_joint.specs.Tables.{row_by, leads, closed, cell, gets_to}
use Rattle.solve_joint.specs.Cuts.{are_one_part}
use Rattle.solve_joint.specs.Classes.{node_at, are_mutual, AreHomes}
use Rattle.solve_joint.proofs.group.Members.{in_at}
use Rattle.solve_joint.proofs.closure.Leading.{or_cases, or_left, or_right, and_both, and_first, and_second, leads_itself, leads_goes}
use Rattle.solve_joint.proofs.closure.Leading.{leads_on}

-- ---- the numbers of unknowns differ
abbrev pub unknowns : List Node → List ℕ
unknowns nodes = map (λ (a : Node). a.unknown) nodes

rises_from : (from : ℕ) (nodes : List Node) (k : ℕ) → Rises from (unknowns nodes) → k < length nodes → from ≤ (node_at nodes k).unknown
rises_from from [] k h l = absurd (omega (arith, l))
rises_from from (a ∷ nodes) zero h l = h.0
rises_from from (a ∷ nodes) (suc k) h l =
    let more = rises_from (a.unknown + 1) nodes k h.1 (omega (arith, l)) in
    let first = h.0 in
    omega (arith, more, first)

-- a later one is greater
pub rises_less : (from : ℕ) (nodes : List Node) (i k : ℕ) → Rises from (unknowns nodes) → i < k → k < length nodes
    → (node_at nodes i).unknown < (node_at nodes k).unknown
rises_less from [] i k h l m = absurd (omega (arith, m))
rises_less from (a ∷ nodes) i zero h l m = absurd (omega (arith, l))
rises_less from (a ∷ nodes) zero (suc k) h l m =
    let more = rises_from (a.unknown + 1) nodes k h.1 (omega (arith, m)) in omega (arith, more)
rises_less from (a ∷ nodes) (suc i) (suc k) h l m = rises_less (a.unknown + 1) nodes i k h.1 (omega (arith, l)) (omega (arith, m))

one_place : (nodes : List Node) (i k : ℕ) → Rises 0 (unknowns nodes) → i < length nodes → k < length nodes
    → (node_at nodes i).unknown ≡ (node_at nodes k).unknown → i ≡ k
one_place nodes i k h l m e = ⊎_elim
    (λ t. t.1)
    (λ t. absurd (⊎_elim
    (λ j. let less = rises_less 0 nodes i k h j m in omega (arith, less, e))
    (λ j. let less = rises_less 0 nodes k i h (omega (arith, j, t.1)) l in omega (arith, less, e))
    (cases_lt i k)))
    (eqb_tells i k)

-- the home of an unknown's point
abbrev pub home_of : List ℕ → List Node → ℕ → ℕ
home_of homes nodes i = get_or homes (node_at nodes i).point 0

-- an unknown's point and source have one home
abbrev pub IsInner : List ℕ → List Node → ℕ → Type 0
IsInner homes nodes i = home_of homes nodes i ≡ get_or homes (node_at nodes i).source 0

module _ (points : ℕ) (rows : List (List Bool)) (nodes : List Node) (are : rows ≡ closed points nodes)
    (within : (a : Node) → In nodes a → (a.point < points) × (a.source < points)) where
  -- the table's test of two points is whether the list leads from one to the other
  pub cell_leads : (p q : ℕ) → p < points → q < points → cell rows p q ≡ leads nodes p q
  cell_leads p q l m =
      ap (λ (t : List (List Bool)). cell t p q) are
      ∙ ap (λ (r : List Bool). get_or r q false)
      (get_or-map-range_with_len (λ s. row_by points (leads nodes s)) 0 points p p [] l (omega arith))
      ∙ get_or-map-range_with_len (leads nodes p) 0 points q q false m (omega arith)

  mutual_leads : (p q : ℕ) → p < points → q < points → are_mutual rows p q ≡ true → (leads nodes p q ≡ true) × (leads nodes q p ≡ true)
  mutual_leads p q l m h = (
    sym (cell_leads p q l m) ∙ and_first (cell rows p q) (cell rows q p) h,
    sym (cell_leads q p m l) ∙ and_second (cell rows p q) (cell rows q p) h,
  )

  leads_mutual : (p q : ℕ) → p < points → q < points → leads nodes p q ≡ true → leads nodes q p ≡ true → are_mutual rows p q ≡ true
  leads_mutual p q l m h k = and_both (cell rows p q) (cell rows q p) (cell_leads p q l m ∙ h) (cell_leads q p m l ∙ k)

  -- each point and itself
  pub mutual_itself : (p : ℕ) → p < points → are_mutual rows p p ≡ true
  mutual_itself p l = leads_mutual p p l l (leads_itself nodes p) (leads_itself nodes p)

  module _ (homes : List ℕ) (at : AreHomes points rows homes) where
    abbrev home : ℕ → ℕ
    home p = get_or homes p 0

    home_within : (p : ℕ) → p < points → home p < points
    home_within p l = let h = (at.each p l).low in omega (arith, l, h)

    home_leads : (p : ℕ) → p < points → (leads nodes p (home p) ≡ true) × (leads nodes (home p) p ≡ true)
    home_leads p l = mutual_leads p (home p) l (home_within p l) (at.each p l).there

    no_lower : (p q : ℕ) → p < points → q < points → leads nodes p q ≡ true → leads nodes q p ≡ true → home p < home q → ⊥
    no_lower p q l m h k less =
        let there = home_leads p l in
        true≢false (sym (leads_mutual q (home p) m (home_within p l) (leads_on nodes q p (home p) k there.0)
        (leads_on nodes (home p) p q there.1 h)) ∙ (at.each q m).first (home p) less)

    -- points that lead to each other have one home
    one_home : (p q : ℕ) → p < points → q < points → leads nodes p q ≡ true → leads nodes q p ≡ true → home p ≡ home q
    one_home p q l m h k =
        let a = no_lower p q l m h k in
        let b = no_lower q p m l k h in
        ⊎_elim (λ t. t.1)
        (λ t. absurd (⊎_elim (λ j. a j) (λ j. b (let apart = t.1 in omega (arith, j, apart))) (cases_lt (home p) (home q))))
        (eqb_tells (home p) (home q))

    -- and points of one home lead to each other
    home_one : (p q : ℕ) → p < points → q < points → home p ≡ home q → leads nodes p q ≡ true
    home_one p q l m e = leads_on nodes p (home p) q (home_leads p l).0
        (subst (λ h. leads nodes h q ≡ true) (sym e) (home_leads q m).1)

    node_in : (i : ℕ) → i < length nodes → In nodes (node_at nodes i)
    node_in i l = in_at nodes i (record { unknown = 0; point = 0; source = 0 }) l

    steps : (i : ℕ) → i < length nodes → leads nodes (node_at nodes i).point (node_at nodes i).source ≡ true
    steps i l = leads_goes nodes (node_at nodes i).point (node_at nodes i) (node_in i l) (leads_itself nodes (node_at nodes i).point)

    round : (i k : ℕ) → i < length nodes → k < length nodes → leads nodes (node_at nodes i).source (node_at nodes k).point ≡ true
        → leads nodes (node_at nodes k).source (node_at nodes i).point ≡ true → IsInner homes nodes i
        × (home_of homes nodes i ≡ home_of homes nodes k)
    round i k l m h j =
        let a = node_at nodes i in
        let b = node_at nodes k in
        let p = within a (node_in i l) in
        let q = within b (node_in k m) in
        let from_b : leads nodes b.point a.point ≡ true = leads_on nodes b.point b.source a.point (steps k m) j in (
          one_home a.point a.source p.0 p.1 (steps i l) (leads_on nodes a.source b.point a.point h from_b),
          one_home a.point b.point p.0 q.0 (leads_on nodes a.point a.source b.point (steps i l) h) from_b,
        )

    -- two unknowns of one part are one, or both inner and of one home
    pub one_part_means : Rises 0 (unknowns nodes) → (i k : ℕ) → i < length nodes → k < length nodes
        → are_one_part rows (node_at nodes i) (node_at nodes k) ≡ true → (i ≡ k) ⊎ (IsInner homes nodes i × IsInner homes nodes k
        × (home_of homes nodes i ≡ home_of homes nodes k))
    one_part_means rises i k l m h =
        let a = node_at nodes i in
        let b = node_at nodes k in
        let p = within a (node_in i l) in
        let q = within b (node_in k m) in
        ⊎_elim
        (λ e. inl (one_place nodes i k rises l m (eqb-true a.unknown b.unknown e)))
        (λ f. ⊎_elim
        (λ e. inl (one_place nodes i k rises l m (sym (eqb-true b.unknown a.unknown e))))
        (λ g.
        let to_b = sym (cell_leads a.source b.point p.1 q.0) ∙ f in
        let to_a = sym (cell_leads b.source a.point q.1 p.0) ∙ g in
        let one = round i k l m to_b to_a in
        let other = round k i m l to_a to_b in
        inr (one.0, other.0, one.1))
        (or_cases (b.unknown == a.unknown) (cell rows b.source a.point) (and_second (gets_to rows a b) (gets_to rows b a) h)))
        (or_cases (a.unknown == b.unknown) (cell rows a.source b.point) (and_first (gets_to rows a b) (gets_to rows b a) h))

    -- an unknown is in its own part
    pub one_part_itself : (i k : ℕ) → i ≡ k → are_one_part rows (node_at nodes i) (node_at nodes k) ≡ true
    one_part_itself i k e = subst (λ j. are_one_part rows (node_at nodes i) (node_at nodes j) ≡ true) e
        (let t = itself (node_at nodes i).unknown in
        and_both _ _ (or_left _ (cell rows (node_at nodes i).source (node_at nodes i).point) t)
        (or_left _ (cell rows (node_at nodes i).source (node_at nodes i).point) t))
      where
        itself : (u : ℕ) → (u == u) ≡ true
        itself u = ⊎_elim (λ t. t.0) (λ t. absurd (t.1 refl)) (eqb_tells u u)

    back : (i k : ℕ) → i < length nodes → k < length nodes → IsInner homes nodes i → home_of homes nodes i ≡ home_of homes nodes k
        → gets_to rows (node_at nodes i) (node_at nodes k) ≡ true
    back i k l m h e =
        let a = node_at nodes i in
        let b = node_at nodes k in
        let p = within a (node_in i l) in
        let q = within b (node_in k m) in
        or_right (a.unknown == b.unknown) (cell rows a.source b.point)
        (cell_leads a.source b.point p.1 q.0 ∙ home_one a.source b.point p.1 q.0 (sym h ∙ e))

    -- inner unknowns of one home are in one part
    pub one_part_inner : (i k : ℕ) → i < length nodes → k < length nodes → IsInner homes nodes i → IsInner homes nodes k
        → home_of homes nodes i ≡ home_of homes nodes k
        → are_one_part rows (node_at nodes i) (node_at nodes k) ≡ true
    one_part_inner i k l m h j e = and_both _ _ (back i k l m h e) (back k i m l j (sym e))
