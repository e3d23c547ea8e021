-- Lists whose items name different unknowns are at most as long as there are unknowns.
use Rattle.std.proofs.Common.{◌≡◌, inl, inr, ℕ, zero, suc, ◌+◌, ◌*◌, ◌<◌, ◌≤◌, List, [], ◌∷◌, length, length-append, map, get_or}
use Rattle.std.proofs.Common.{refl, ap, subst, subst₂, arith}
use Rattle.std.specs.Prelude.{flat_map}
use Rattle.std.specs.List.{range_with_len}
use Rattle.std.proofs.lemmas.List.FromFn.{length-range_with_len, length-map-range_with_len}
use Rattle.base_facts.proofs.elements.Pigeonhole.{pigeonhole}
use Rattle.base_facts.specs.Elements.{In}
use Rattle.flow_systems.specs.Equations.{Equations}
use Rattle.theory_validity.specs.Steps.{Item, Unnamed, Distinct}
use Rattle.theory_validity.proofs.steps.Puts.{not_unnamed}
use Rattle.theory_strategy.specs.Picks.{choice}
use Rattle.theory_strategy.specs.PickCount.{Unknown, unknowns}
use Rattle.theory_strategy.proofs.round.FewRounds.{in_unknowns}

-- a list of lists that each have at most m
length-flat_most : {A B : Type 0} (f : A → List B) (xs : List A) (m : ℕ) → ((x : A) → length (f x) ≤ m)
    → length (flat_map f xs) ≤ length xs * m
length-flat_most f [] m h = omega arith
length-flat_most f (x ∷ xs) m h = let a = length-append (f x) (flat_map f xs) in let b = h x in let c = length-flat_most f xs m h in
    let d : suc (length xs) * m ≡ m + length xs * m = grind arith in omega arith

-- there are as many unknowns as points times rows
count_unknowns : (system : Equations) → length (unknowns system) ≤ system.points * length system.template
unfolding unknowns
count_unknowns system =
    subst (λ n. length (flat_map (λ p. map (λ r. record { point = p; row = r }) (range_with_len 0 (length system.template)))
    (range_with_len 0 system.points)) ≤ n * length system.template)
    (length-range_with_len 0 system.points)
    (length-flat_most (λ p. map (λ r. record { point = p; row = r }) (range_with_len 0 (length system.template)))
    (range_with_len 0 system.points) (length system.template)
    (λ p. let e = length-map-range_with_len (λ r. let u : Unknown = record { point = p; row = r } in u) 0 (length system.template) in
    omega arith))

-- an item at a place is of the list
in_place : (items : List Item) (k : ℕ) (none : Item) → k < length items → In items (get_or items k none)
in_place [] k none l = absurd (omega arith)
in_place (x ∷ xs) zero none l = inl refl
in_place (x ∷ xs) (suc k) none l = inr (in_place xs k none (omega arith))

-- items at different places name different unknowns
apart : (items : List Item) (none : Item) → Distinct items → (i j : ℕ) → i < j → j < length items
    → (get_or items i none).point ≡ (get_or items j none).point → (get_or items i none).row ≡ (get_or items j none).row → ⊥
apart [] none d i j h l e f = absurd (omega arith)
apart (x ∷ xs) none d i zero h l e f = absurd (omega arith)
apart (x ∷ xs) none d zero (suc j) h l e f = not_unnamed xs (get_or xs j none) (in_place xs j none (omega arith))
    (subst₂ (λ p r. Unnamed xs p r) e f d.0)
apart (x ∷ xs) none d (suc i) (suc j) h l e f = apart xs none d.1 i j (omega arith) (omega arith) e f

-- distinct items in range are at most as many as there are unknowns
pub distinct_few : (system : Equations) (items : List Item) → Distinct items
    → ((u : Item) → In items u → (u.point < system.points) × (u.row < length system.template)) →
    length items ≤ system.points * length system.template
distinct_few system items d within =
    let few = pigeonhole (length items) unknown (unknowns system)
    (λ k l. let w = within (get_or items k none) (in_place items k none l) in
    in_unknowns system (get_or items k none).point (get_or items k none).row w.0 w.1)
    (λ i j h l e. apart items none d i j h l (ap (λ (u : Unknown). u.point) e) (ap (λ (u : Unknown). u.row) e)) in
    let all = count_unknowns system in
    omega arith
  where
    none : Item
    none = choice 0 0 0

    unknown : ℕ → Unknown
    unknown k = record { point = (get_or items k none).point; row = (get_or items k none).row }
