-- The pigeonhole principle.
use Rattle.std.proofs.Common.{◌≡◌, ℕ, zero, suc, ◌<◌, ◌≤◌, inl, inr, List, [], ◌∷◌, length, refl, ap, sym, ◌∙◌, arith}
use Rattle.base_facts.specs.Elements.{In}

-- a list without one occurrence of an element
removed : {A : Type 0} (xs : List A) (x : A) → In xs x → List A
removed [] x m = []
removed (y ∷ xs) x (inl e) = xs
removed (y ∷ xs) x (inr m) = y ∷ removed xs x m

length-removed : {A : Type 0} (xs : List A) (x : A) (m : In xs x) → length xs ≡ suc (length (removed xs x m))
unfolding removed
length-removed [] x m = absurd m
length-removed (y ∷ xs) x (inl e) = refl
length-removed (y ∷ xs) x (inr m) = ap suc (length-removed xs x m)

in_removed : {A : Type 0} (xs : List A) (x y : A) (m : In xs x) → In xs y → (y ≡ x → ⊥) → In (removed xs x m) y
unfolding removed
in_removed [] x y m k differ = absurd m
in_removed (z ∷ xs) x y (inl e) (inl f) differ = absurd (differ (sym f ∙ e))
in_removed (z ∷ xs) x y (inl e) (inr k) differ = k
in_removed (z ∷ xs) x y (inr m) (inl f) differ = inl f
in_removed (z ∷ xs) x y (inr m) (inr k) differ = inr (in_removed xs x y m k differ)

-- n distinct elements of a list are at most as many as the list has
pub pigeonhole : {A : Type 0} (n : ℕ) (f : ℕ → A) (xs : List A) → ((k : ℕ) → k < n → In xs (f k))
    → ((i j : ℕ) → i < j → j < n → f i ≡ f j → ⊥) → n ≤ length xs
pigeonhole zero f xs members distinct = omega arith
pigeonhole (suc n) f xs members distinct =
    let m = members n (omega arith) in
    let rest = pigeonhole n f (removed xs (f n) m) (λ k h. in_removed xs (f n) (f k) m (members k (omega arith))
    (λ e. distinct k n h (omega arith) e)) (λ i j h k e. distinct i j h (omega arith) e) in
    omega (arith, length-removed xs (f n) m)
