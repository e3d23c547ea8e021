-- The steps of a list of unknowns.
use Rattle.std.proofs.Common.{◌≡◌, ◌∙◌, ◌⊎◌, ◌↔◌, inl, inr, ⊎_elim, ℕ, ◌+◌, ◌<◌, ◌≤◌, List, [], ◌∷◌, ◌++◌}
use Rattle.std.proofs.Common.{length, get_or, set, take, refl, sym, ap, subst, arith, length-set}
use Rattle.std.specs.Prelude.{replicate}
use Rattle.std.proofs.lemmas.Bool.{cases_lt}
use Rattle.std.proofs.lemmas.Bool.Decides.{eqb_tells}
use Rattle.std.proofs.lemmas.List.{get_or_default, get_or-set_same, get_or-set_other, get_or_past, get_or-replicate, length-replicate}
use Rattle.std.proofs.lemmas.List.{take_more, take_all}
use Rattle.base_facts.specs.Elements.{In}
use Rattle.solve_joint.specs.declared.node.Node.{Node}
use Rattle.solve_joint.specs.Searches.{StepsTo, AreSteps, StepsWithin}

steps_append : (xs : List Node) (x : Node) (p s : ℕ) → StepsTo (xs ++ x ∷ []) p s ↔ (StepsTo xs p s ⊎ ((x.point ≡ p) × (x.source ≡ s)))
steps_append [] x p s = (λ h. ⊎_elim (λ k. inr k) (λ k. absurd k) h, λ h. ⊎_elim (λ k. absurd k) (λ k. inl k) h)
steps_append (y ∷ xs) x p s =
    let more = steps_append xs x p s in (
      λ h. ⊎_elim (λ k. inl (inl k)) (λ k. ⊎_elim (λ j. inl (inr j)) (λ j. inr j) (more.0 k)) h,
      λ h. ⊎_elim (λ k. ⊎_elim (λ j. inl j) (λ j. inr (more.1 (inl j))) k) (λ k. inr (more.1 (inr k))) h,
    )

-- no unknown steps anywhere
pub steps_none : (points : ℕ) (lists : List (List ℕ)) → lists ≡ replicate points [] → AreSteps points [] lists
steps_none points lists e = record {
  size = ap (λ ls. length ls) e ∙ length-replicate points [];
  each = λ p s l. (
    λ m. subst (λ ls. In ls s) (ap (λ ls. get_or ls p []) e ∙ get_or-replicate points p [] [] l) m,
    λ h. absurd h,
  );
}

-- one unknown more
pub steps_more : (points : ℕ) (nodes : List Node) (i : ℕ) (a : Node) (old new : List (List ℕ)) (list next : List ℕ) → i < length nodes
    → a ≡ get_or nodes i a → a.point < points → AreSteps points (take i nodes) old → list ≡ get_or old a.point list
    → ((x : ℕ) → In next x ↔ (In list x ⊎ (a.source ≡ x))) → new ≡ set old a.point next → AreSteps points (take (i + 1) nodes) new
steps_more points nodes i a old new list next l is within are here more e =
    subst (λ ns. AreSteps points ns new) (sym (take_more nodes i a l ∙ ap (λ x. take i nodes ++ x ∷ []) (sym is))) (record {
      size = ap (λ ls. length ls) e ∙ length-set old a.point next ∙ are.size;
      each = λ p s k. ⊎_elim (λ j. same p s k j.1) (λ j. other p s k j.1) (eqb_tells p a.point);
    })
  where
    placed : a.point < length old
    placed = let n = are.size in omega (arith, within, n)

    at_point : (p : ℕ) → p ≡ a.point → get_or new p [] ≡ next
    at_point p j = ap (λ ls. get_or ls p []) e ∙ ap (λ q. get_or (set old a.point next) q []) j ∙ get_or-set_same old a.point next [] placed

    before : (p : ℕ) → p ≡ a.point → list ≡ get_or old p []
    before p j = here ∙ get_or_default old a.point list [] placed ∙ ap (λ q. get_or old q []) (sym j)

    same : (p s : ℕ) → p < points → p ≡ a.point → In (get_or new p []) s ↔ StepsTo (take i nodes ++ a ∷ []) p s
    same p s k j =
        let both = steps_append (take i nodes) a p s in
        let each = are.each p s k in (
          λ m. both.1 (⊎_elim (λ n. inl (each.0 (subst (λ ns. In ns s) (before p j) n))) (λ n. inr (sym j, n))
              ((more s).0 (subst (λ ns. In ns s) (at_point p j) m))),
          λ h. subst (λ ns. In ns s) (sym (at_point p j))
              ((more s).1 (⊎_elim (λ n. inl (subst (λ ns. In ns s) (sym (before p j)) (each.1 n))) (λ n. inr n.1) (both.0 h))),
        )

    other : (p s : ℕ) → p < points → (p ≡ a.point → ⊥) → In (get_or new p []) s ↔ StepsTo (take i nodes ++ a ∷ []) p s
    other p s k j =
        let both = steps_append (take i nodes) a p s in
        let each = are.each p s k in
        let stays : get_or new p [] ≡ get_or old p [] = ap (λ ls. get_or ls p []) e ∙ get_or-set_other old a.point p next [] j in (
          λ m. both.1 (inl (each.0 (subst (λ ns. In ns s) stays m))),
          λ h. subst (λ ns. In ns s) (sym stays) (⊎_elim (λ n. each.1 n) (λ n. absurd (j (sym n.0))) (both.0 h)),
        )

-- all unknowns
pub steps_all : (points : ℕ) (nodes : List Node) (i : ℕ) (lists : List (List ℕ)) → length nodes ≤ i → AreSteps points (take i nodes) lists
    → AreSteps points nodes lists
steps_all points nodes i lists l are = subst (λ ns. AreSteps points ns lists) (take_all i nodes l) are

-- a step is one of an unknown of the list
pub step_of : (nodes : List Node) (p s : ℕ) → StepsTo nodes p s → (a : Node) × In nodes a × (a.point ≡ p) × (a.source ≡ s)
step_of [] p s h = absurd h
step_of (x ∷ xs) p s h = ⊎_elim (λ k. (x, inl refl, k.0, k.1)) (λ k. let t = step_of xs p s k in (t.0, inr t.1, t.2, t.3)) h

-- an unknown of the list steps from its point to its source
pub step_in : (nodes : List Node) (a : Node) → In nodes a → StepsTo nodes a.point a.source
step_in [] a m = absurd m
step_in (x ∷ xs) a m = ⊎_elim (λ e. inl (ap (λ (y : Node). y.point) e, ap (λ (y : Node). y.source) e)) (λ k. inr (step_in xs a k)) m

-- the steps are to points
pub steps_within : (points : ℕ) (nodes : List Node) (lists : List (List ℕ))
    → ((a : Node) → In nodes a → (a.point < points) × (a.source < points)) → AreSteps points nodes lists → StepsWithin points lists
steps_within points nodes lists h are q s m = ⊎_elim
    (λ l. let step = step_of nodes q s ((are.each q s l).0 m) in subst (λ k. k < points) step.3 (h step.0 step.1).1)
    (λ l. absurd (subst (λ ns. In ns s) (get_or_past lists q [] (let n = are.size in omega (arith, l, n))) m))
    (cases_lt q points)
