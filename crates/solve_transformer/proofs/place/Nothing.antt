-- The form without coefficients.
use Rattle.std.proofs.Common.{◌≡◌, ◌∙◌, ℕ, zero, suc, ◌+◌, List, [], ◌∷◌, ◌++◌, refl, ap, ap₂, sym, arith}
use Rattle.base_numbers.specs.Rational.{ℚ, zero_ℚ}
use Rattle.solve_composition.specs.declared.affine.Affine.{Affine}
use Rattle.solve_composition.specs.Composed.{first_entries}

-- zeros for one column more
zeros_more : (w : ℕ) → first_entries (w + 1) [] ≡ first_entries w [] ++ zero_ℚ ∷ []
zeros_more zero = refl
zeros_more (suc w) = ap (λ n. first_entries n []) (let e : suc w + 1 ≡ suc (w + 1) = omega arith in e)
    ∙ ap (λ xs. zero_ℚ ∷ xs) (zeros_more w)

-- one zero more extends the list of zeros
pub zeros_push : (w : ℕ) (xs ys : List ℚ) (q : ℚ) → xs ≡ first_entries w [] → ys ≡ xs ++ q ∷ [] → q ≡ zero_ℚ → ys ≡ first_entries (w + 1) []
zeros_push w xs ys q h e f = e ∙ ap₂ (λ zs z. zs ++ z ∷ []) h f ∙ sym (zeros_more w)

-- forms with the same coefficients and constants are the same
pub affine_same : (cs ds : List ℚ) (q r : ℚ) → cs ≡ ds → q ≡ r → (let f : Affine = record { coeffs = cs; constant = q } in f)
    ≡ (let g : Affine = record { coeffs = ds; constant = r } in g)
affine_same cs ds q r e f = ap₂ (λ xs x. let g : Affine = record { coeffs = xs; constant = x } in g) e f
