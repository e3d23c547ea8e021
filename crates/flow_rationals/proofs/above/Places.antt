-- The elements of a list with their places.
use Rattle.std.proofs.Common.{◌≡◌, inl, inr, ⊎_elim, ℕ, zero, suc, ◌+◌, ◌<◌, List, [], ◌∷◌, length, refl, ap, subst, arith}
use Rattle.std.specs.Prelude.{slice_get, Some}
use Rattle.std.specs.List.{enumerate_from}
use Rattle.base_facts.specs.Elements.{In}

-- an element with its place, counted from k
pub in_enumerated : {A : Type 0} (xs : List A) (k i j : ℕ) (x : A) → slice_get xs i ≡ Some x → k + i ≡ j → In (enumerate_from k xs) (j, x)
in_enumerated [] k i j x e p = absurd cc
in_enumerated {A} (y ∷ xs) k zero j x e p =
    let same : y ≡ x = cc in
    let place : k ≡ j = omega arith in
    inl (subst (λ (z : A). ◌≡◌ {A = ℕ × A} (k, y) (j, z)) same (ap (λ (m : ℕ). let r : ℕ × A = (m, y) in r) place))
in_enumerated (y ∷ xs) k (suc i) j x e p = inr (in_enumerated xs (k + 1) i j x e (omega arith))

-- an element with a place is the list's element at that place
pub of_enumerated : {A : Type 0} (xs : List A) (k : ℕ) (p : ℕ × A) → In (enumerate_from k xs) p
    → (i : ℕ) × (slice_get xs i ≡ Some p.1) × (k + i ≡ p.0)
of_enumerated [] k p m = absurd m
of_enumerated {A} (y ∷ xs) k p m =
    ⊎_elim (λ e. (0, ap (λ (q : ℕ × A). Some q.1) e, (let f = ap (λ (q : ℕ × A). q.0) e in omega arith)))
    (λ h. let r = of_enumerated xs (k + 1) p h in (suc r.0, r.1, (let f = r.2 in omega arith))) m

-- each place has an element
pub at_place : {A : Type 0} (xs : List A) (i : ℕ) → i < length xs → (x : A) × (slice_get xs i ≡ Some x)
at_place [] i h = absurd (omega arith)
at_place (x ∷ xs) zero h = (x, refl)
at_place (x ∷ xs) (suc i) h = at_place xs i (omega arith)
