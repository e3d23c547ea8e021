-- Lists over the numbers from 0 on.
use Rattle.std.proofs.Common.{◌≡◌, ◌∙◌, ℕ, zero, suc, ◌+◌, ◌<◌, List, [], ◌∷◌, ◌++◌, map, refl, ap₂, sym, arith}
use Rattle.std.specs.Prelude.{flat_map}
use Rattle.std.specs.List.{range_with_len}
use Rattle.std.proofs.lemmas.List.FromFn.{map-range_with_len_more}

-- one more element
pub range_push : {X : Type 0} (f : ℕ → X) (i : ℕ) (xs : List X) (x : X) (ys : List X) → ys ≡ xs ++ x ∷ [] → xs ≡ map f (range_with_len 0 i)
    → x ≡ f i → ys ≡ map f (range_with_len 0 (i + 1))
range_push f i xs x ys e h k = e ∙ ap₂ (λ zs z. zs ++ z ∷ []) h k ∙ sym (map-range_with_len_more f 0 i i (omega arith))

-- functions that are the same at each number
pub range_map : {X : Type 0} (f g : ℕ → X) (a n : ℕ) → ((k : ℕ) → k < a + n → f k ≡ g k)
    → map f (range_with_len a n) ≡ map g (range_with_len a n)
range_map f g a zero h = refl
range_map f g a (suc n) h = ap₂ (λ x xs. x ∷ xs) (h a (omega arith)) (range_map f g (a + 1) n (λ k l. h k (omega (arith, l))))

-- two functions that agree below the end of a range give the same flat list over it
pub range_flat : {X : Type 0} (f g : ℕ → List X) (a n : ℕ) → ((k : ℕ) → k < a + n → f k ≡ g k)
    → flat_map f (range_with_len a n) ≡ flat_map g (range_with_len a n)
range_flat f g a zero h = refl
range_flat f g a (suc n) h = ap₂ (λ x xs. x ++ xs) (h a (omega arith)) (range_flat f g (a + 1) n (λ k l. h k (omega (arith, l))))
