-- Opposite rows have as many coefficients.
use Rattle.std.proofs.Common.{◌≡◌, ◌≢◌, ◌==◌, ℤ, ◌+ℤ◌, nat_abs, Bool, true, false, List, [], ◌∷◌, length, refl}
use Rattle.std.proofs.lemmas.Bool.{and_parts}
use Rattle.acsl_notes.specs.Clauses.{is_opposite}

-- opposite rows have as many coefficients
opposite_length : (row other : List ℤ) → is_opposite row other ≡ true → length row ≡ length other
opposite_length [] [] h = refl
opposite_length [] (d ∷ ds) h = cc
opposite_length (c ∷ cs) [] h = cc
opposite_length (c ∷ cs) (d ∷ ds) h =
    let more : length cs ≡ length ds = opposite_length cs ds (and_parts (nat_abs (c +ℤ d) == 0) (is_opposite cs ds) h).1 in
    cc

-- rows of different lengths are not opposite
pub not_opposite : (row other : List ℤ) → length row ≢ length other → is_opposite row other ≡ false
not_opposite row other apart = by (is_opposite row other) refl
  where
    by : (b : Bool) → is_opposite row other ≡ b → b ≡ false
    by false e = refl
    by true e = absurd (apart (opposite_length row other e))
