-- Lists of numbers that follow one another.
use Rattle.std.proofs.Common.{◌≡◌, ◌∙◌, ℕ, zero, suc, ◌+◌, ◌<◌, List, ◌∷◌, ◌++◌, map, refl, ap, ap₂, arith}
use Rattle.std.specs.Prelude.{flat_map}
use Rattle.std.specs.List.{range_with_len}

-- a range is its first part and its second
pub range_append : (a m n : ℕ) → range_with_len a (m + n) ≡ range_with_len a m ++ range_with_len (a + m) n
range_append a zero n =
    let e : 0 + n ≡ n = omega arith in
    let f : a ≡ a + 0 = omega arith in
    ap₂ range_with_len f e
range_append a (suc m) n =
    let e : suc m + n ≡ suc (m + n) = omega arith in
    let f : a + 1 + m ≡ a + suc m = omega arith in
    ap (range_with_len a) e ∙ ap (λ r. a ∷ r) (range_append (a + 1) m n ∙ ap (λ k. range_with_len (a + 1) m ++ range_with_len k n) f)

-- functions that agree below the end of a range have one list of values there
pub range_map_same : {X : Type 0} (f g : ℕ → X) (a n : ℕ) → ((k : ℕ) → k < a + n → f k ≡ g k)
    → map f (range_with_len a n) ≡ map g (range_with_len a n)
range_map_same f g a zero h = refl
range_map_same f g a (suc n) h = ap₂ (λ x xs. x ∷ xs) (h a (omega arith)) (range_map_same f g (a + 1) n (λ k l. h k (omega (arith, l))))

-- functions to lists that agree below the end of a range have one joined list there
pub range_flat_map_same : {X : Type 0} (f g : ℕ → List X) (a n : ℕ) → ((k : ℕ) → k < a + n → f k ≡ g k)
    → flat_map f (range_with_len a n) ≡ flat_map g (range_with_len a n)
range_flat_map_same f g a zero h = refl
range_flat_map_same f g a (suc n) h = ap₂ (λ x xs. x ++ xs) (h a (omega arith))
    (range_flat_map_same f g (a + 1) n (λ k l. h k (omega (arith, l))))
