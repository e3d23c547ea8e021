-- The table of a list's points tells which of its unknowns reach which.
use Rattle.std.proofs.Common.{◌≡◌, ◌∙◌, inl, inr, ⊎_elim, ℕ, ◌/◌, ◌&&◌, ◌||◌, ◌==◌, Bool, true, false, List, [], ◌∷◌, length}
use Rattle.std.proofs.Common.{map, Option, refl, ap, ap₂, sym}
use Rattle.std.proofs.lemmas.Bool.{eqb-true}
use Rattle.std.proofs.lemmas.Bool.Decides.{eqb_tells}
use Rattle.base_facts.specs.Elements.{In}
use Rattle.flow_systems.specs.declared.system.System.{System}
use Rattle.flow_systems.specs.Equations.{Equations}
use Rattle.flow_systems.specs.View.{equations_of}
use Rattle.theory_transformers.specs.JointProblems.{Listed}
use Rattle.theory_transformers.specs.Parts.{leans, same, reaches, together}
use Rattle.theory_transformers.proofs.parts.Reaching.{same_itself, same_equal}
use Rattle.solve_joint.specs.declared.node.Node.{Node}
use Rattle.solve_joint.specs.Numbers.{listed_of, number_of, all_listed, source_of, nodes_of, ArePicked}
use Rattle.solve_joint.specs.Tables.{leads, closed, gets_to}
use Rattle.solve_joint.specs.Cuts.{are_one_part}
use Rattle.solve_joint.proofs.numbers.NodeFacts.{number_back, shown, node_in, shown_all}
use Rattle.solve_joint.proofs.tables.Entries.{cell_at}

-- ---- leading from source to point is reaching
-- where one unknown is the one in the middle, going through it adds nothing
through : (same_ab leads_ab same_ax leads_ax same_xb leads_xb : Bool) → (same_ax ≡ true → (leads_xb ≡ leads_ab) × (same_xb ≡ same_ab))
    → (same_xb ≡ true → leads_ax ≡ leads_ab) →
    same_ab || (leads_ab || (leads_ax && leads_xb)) ≡ (same_ab || leads_ab) || ((same_ax || leads_ax) && (same_xb || leads_xb))
through true b c d e f h k = refl
through false true c d e f h k = refl
through false false true d e f h k = by d e f (h refl).0 (h refl).1
  where
    by : (d e f : Bool) → f ≡ false → e ≡ false → d && f ≡ e || f
    by d true f p q = absurd cc
    by d false true p q = absurd cc
    by true false false p q = refl
    by false false false p q = refl
through false false false true true f h k = absurd (let e = k refl in let n : true ≡ false = e in cc)
through false false false false true f h k = refl
through false false false true false f h k = refl
through false false false false false f h k = refl

module _ (system : System) (pick : List (Option ℕ)) (list : List ℕ) (picked : ArePicked system pick list) where
  abbrev eqs : Equations
  eqs = equations_of system

  abbrev us : List Listed
  us = all_listed system pick list

  abbrev nodes : List Node
  nodes = nodes_of system pick list

  abbrev points : ℕ
  points = length system.flow.points

  same_numbers : (a b : Node) → a.unknown == b.unknown ≡ same (shown system pick a) (shown system pick b)
  same_numbers a b = ⊎_elim
      (λ h. h.0 ∙ sym (ap (λ n. same (shown system pick a) (listed_of (length system.template) pick n)) (sym h.1)
      ∙ same_itself (shown system pick a)))
      (λ h. h.0 ∙ sym (not_same (same (shown system pick a) (shown system pick b)) refl h.1))
      (eqb_tells a.unknown b.unknown)
    where
      not_same : (t : Bool) → same (shown system pick a) (shown system pick b) ≡ t → ¬ (a.unknown ≡ b.unknown) → t ≡ false
      not_same false e n = refl
      not_same true e n = absurd (n (sym (number_back (length system.template) pick a.unknown)
          ∙ ap (number_of (length system.template)) (same_equal (shown system pick a) (shown system pick b) e)
          ∙ number_back (length system.template) pick b.unknown))

  -- a node leans on another exactly where its unknown does
  pub leans_shown : (a b : Node) → In nodes a → In nodes b → a.source == b.point ≡ leans eqs (shown system pick a) (shown system pick b)
  unfolding leans
  leans_shown a b m n = ap₂ (λ x y. x == y) (node_in system pick list picked a m).source (node_in system pick list picked b n).point

  -- nodes of one number have one point and one source
  one_source : (a b : Node) → In nodes a → In nodes b → a.unknown == b.unknown ≡ true → a.source ≡ b.source
  one_source a b m n e = (node_in system pick list picked a m).source ∙ ap (source_of system pick) (eqb-true a.unknown b.unknown e)
      ∙ sym (node_in system pick list picked b n).source

  one_point : (a b : Node) → In nodes a → In nodes b → a.unknown == b.unknown ≡ true → a.point ≡ b.point
  one_point a b m n e = (node_in system pick list picked a m).point ∙ ap (λ u. u / length system.template) (eqb-true a.unknown b.unknown e)
      ∙ sym (node_in system pick list picked b n).point

  leads_reaches : (xs : List Node) → ((x : Node) → In xs x → In nodes x) → (a b : Node) → In nodes a → In nodes b
      → a.unknown == b.unknown || leads xs a.source b.point ≡ reaches eqs (map (shown system pick) xs) (shown system pick a)
      (shown system pick b)
  unfolding reaches
  leads_reaches [] sub a b m n = ap₂ (λ x y. x || y) (same_numbers a b) (leans_shown a b m n)
  leads_reaches (x ∷ xs) sub a b m n =
      let k = sub x (inl refl) in
      let more = λ (y : Node) (i : In xs y). sub y (inr i) in
      through (a.unknown == b.unknown) (leads xs a.source b.point) (a.unknown == x.unknown) (leads xs a.source x.point)
      (x.unknown == b.unknown) (leads xs x.source b.point)
      (λ e. (ap (λ p. leads xs p b.point) (sym (one_source a x m k e)), ap (λ u. u == b.unknown) (sym (eqb-true a.unknown x.unknown e))))
      (λ e. ap (leads xs a.source) (one_point x b k n e))
      ∙ ap₂ (λ y z. y || z) (leads_reaches xs more a b m n) (ap₂ (λ y z. y && z) (leads_reaches xs more a x m k)
      (leads_reaches xs more x b k n))

  -- ---- the whole table
  gets_shown : (a b : Node) → In nodes a → In nodes b → gets_to (closed points nodes) a b
      ≡ reaches eqs us (shown system pick a) (shown system pick b)
  gets_shown a b m n =
      let p = node_in system pick list picked a m in
      let q = node_in system pick list picked b n in
      ap (λ t. a.unknown == b.unknown || t) (cell_at points (leads nodes) a.source b.point p.source_within q.point_within)
      ∙ leads_reaches nodes (λ x i. i) a b m n
      ∙ ap (λ vs. reaches eqs vs (shown system pick a) (shown system pick b)) (shown_all system pick list)

  -- two nodes are in one part exactly where their unknowns are
  pub one_part_shown : (a b : Node) → In nodes a → In nodes b → are_one_part (closed points nodes) a b
      ≡ together eqs us (shown system pick a) (shown system pick b)
  unfolding together
  one_part_shown a b m n = ap₂ (λ x y. x && y) (gets_shown a b m n) (gets_shown b a n m)
