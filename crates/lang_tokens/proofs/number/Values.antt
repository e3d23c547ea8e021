-- A literal's value through the width of its type.
use Rattle.std.proofs.Common.{◌≡◌, ◌≤◌, ℕ, ℤ, pos, arith, w64, to_z, of_z}
use Rattle.std.proofs.lemmas.Int.{to_z-of_z, ints}
use Rattle.lang_tokens.specs.Lexemes.{greatest_literal}

-- a value up to the greatest literal passes through 64 bits unchanged
pub value_back : (z : ℤ) (n : ℕ) → z ≡ pos n → n ≤ greatest_literal → to_z w64 (of_z w64 z) ≡ pos n
value_back z n e h = rw e (to_z-of_z w64 (pos n) (omega (arith, ints)))
