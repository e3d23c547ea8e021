-- What keeps a part from being the next.
use Rattle.std.proofs.Common.{◌≡◌, ◌∙◌, inl, ⊎_elim, ℕ, ◌+◌, ◌<◌, ◌≤◌, Bool, true, false, true≢false, List, [], ◌∷◌, ◌++◌}
use Rattle.std.proofs.Common.{length, get_or, map, set, take, refl, sym, ap, subst, arith, length-set}
use Rattle.std.proofs.lemmas.Bool.Decides.{eqb_tells}
use Rattle.std.proofs.lemmas.List.{length-map, get_or-map, get_or-set_same, get_or-set_other, take_more}
use Rattle.base_facts.specs.Elements.{In}
use Rattle.base_facts.proofs.elements.Membership.{in_left, in_right, of_append}
use Rattle.solve_joint.specs.declared.node.Node.{Node}
use Rattle.solve_joint.specs.Classes.{node_at, places_of, standing_at}
use Rattle.solve_joint.specs.Waits.{is_outside, Blocks}
use Rattle.solve_joint.proofs.group.Members.{in_at, place_in}
use Rattle.solve_joint.proofs.group.Grouping.{in_places, of_places}

abbrev nowhere : Node
nowhere = record { unknown = 0; point = 0; source = 0 }

module _ (nodes : List Node) where
  points_at : (i : ℕ) → i < length nodes → get_or (map (λ (a : Node). a.point) nodes) i 0 ≡ (node_at nodes i).point
  points_at i l = get_or-map (λ (a : Node). a.point) nodes i nowhere 0 l

  -- an unknown is among those that stand at a point exactly where it stands there
  pub stands : (p i : ℕ) → In (standing_at nodes p) i → (i < length nodes) × ((node_at nodes i).point ≡ p)
  stands p i m =
      let r = of_places (map (λ (a : Node). a.point) nodes) p i m in
      let size = length-map nodes (λ (a : Node). a.point) in
      let l = r.0 in
      let within : i < length nodes = omega (arith, l, size) in
      (within, sym (points_at i within) ∙ r.1)

  -- an unknown is among those that stand at its point
  pub standing : (p i : ℕ) → i < length nodes → (node_at nodes i).point ≡ p → In (standing_at nodes p) i
  standing p i l e = in_places (map (λ (a : Node). a.point) nodes) p i
      (let size = length-map nodes (λ (a : Node). a.point) in omega (arith, l, size)) (points_at i l ∙ e)

  module _ (classes : List ℕ) (sized : length classes ≡ length nodes) where
    -- a member of a part
    pub member_is : (head m : ℕ) → In (places_of classes head) m → (m < length nodes) × (get_or classes m 0 ≡ head)
    member_is head m i = let r = of_places classes head m i in (let l = r.0 in omega (arith, l, sized), r.1)

    -- an unknown of a part is among its members
    pub is_member : (head m : ℕ) → m < length nodes → get_or classes m 0 ≡ head → In (places_of classes head) m
    is_member head m l e = in_places classes head m (omega (arith, l, sized)) e

    -- a place of a part's members
    pub member_at : (head : ℕ) (members : List ℕ) (k : ℕ) → members ≡ places_of classes head → k < length members
        → (get_or members k 0 < length nodes) × (get_or classes (get_or members k 0) 0 ≡ head)
    member_at head members k e l = member_is head (get_or members k 0) (subst (λ ms. In ms (get_or members k 0)) e (in_at members k 0 l))

    module _ (gone : List Bool) (head : ℕ) (members : List ℕ) (are : members ≡ places_of classes head) where
      -- an unknown left outside of the part at a member's source
      pub found_blocker : (k i : ℕ) → k < length members
          → In (standing_at nodes (node_at nodes (get_or members k 0)).source) i × (is_outside classes gone head i ≡ true)
          → Blocks nodes classes gone head i
      found_blocker k i l h =
          let s = stands (node_at nodes (get_or members k 0)).source i h.0 in
          let m = member_at head members k are l in
          record {
            within = s.0;
            outside = h.1;
            member = get_or members k 0;
            is_member = m.0;
            of_part = m.1;
            leans = sym s.1;
          }

      -- none at any member's source
      pub no_blocker : (n : ℕ) → length members ≤ n → ((k i : ℕ) → k < n
          → In (standing_at nodes (node_at nodes (get_or members k 0)).source) i → is_outside classes gone head i ≡ false)
          → (i : ℕ) → Blocks nodes classes gone head i → ⊥
      no_blocker n all none i b =
          let r = place_in members b.member 0 (subst (λ ms. In ms b.member) (sym are) (is_member head b.member b.is_member b.of_part)) in
          let l = r.1 in
          true≢false (sym b.outside ∙ none r.0 i (omega (arith, l, all))
          (standing (node_at nodes (get_or members r.0 0)).source i b.within (sym b.leans ∙ ap (λ k. (node_at nodes k).source) (sym r.2))))

-- ---- tests that are made true at places
module _ (old : List Bool) (places : List ℕ) where
  -- the first n places are true and the others are as they were
  pub record AreSet (new : List Bool) (n : ℕ) : Type 0 where
    -- the list keeps its length
    pub size : length new ≡ length old
    -- those places are true
    pub out : (i : ℕ) → In (take n places) i → get_or new i false ≡ true
    -- others are as they were
    pub others : (i : ℕ) → (In (take n places) i → ⊥) → get_or new i false ≡ get_or old i false

  -- none is
  pub set_none : AreSet old 0
  set_none = record { size = refl; out = λ i m. absurd m; others = λ i m. refl }

  -- one more is
  pub set_more : (mid new : List Bool) (n : ℕ) → AreSet mid n → n < length places → get_or places n 0 < length mid
      → new ≡ set mid (get_or places n 0) true → AreSet new (n + 1)
  set_more mid new n are l within e = record {
    size = ap (λ xs. length xs) e ∙ length-set mid (get_or places n 0) true ∙ are.size;
    out = λ i m. ⊎_elim (λ t. at_place i t.1)
        (λ t. apart i t.1 ∙ ⊎_elim (λ k. are.out i k) (λ k. ⊎_elim (λ s. absurd (t.1 (sym s))) (λ s. absurd s) k)
        (of_append (take n places) (get_or places n 0 ∷ []) i (subst (λ xs. In xs i) more m))) (eqb_tells i (get_or places n 0));
    others = λ i m. apart i (λ s. m (subst (λ xs. In xs i) (sym more) (in_right (take n places) (get_or places n 0 ∷ []) i (inl (sym s)))))
        ∙ are.others i (λ k. m (subst (λ xs. In xs i) (sym more) (in_left (take n places) (get_or places n 0 ∷ []) i k)));
  }
    where
      more : take (n + 1) places ≡ take n places ++ get_or places n 0 ∷ []
      more = take_more places n 0 l

      at_place : (i : ℕ) → i ≡ get_or places n 0 → get_or new i false ≡ true
      at_place i s = ap (λ xs. get_or xs i false) e ∙ ap (λ j. get_or (set mid (get_or places n 0) true) j false) s
          ∙ get_or-set_same mid (get_or places n 0) true false within

      apart : (i : ℕ) → (i ≡ get_or places n 0 → ⊥) → get_or new i false ≡ get_or mid i false
      apart i s = ap (λ xs. get_or xs i false) e ∙ get_or-set_other mid (get_or places n 0) i true false s
