-- Lists of no length, and of one element many times.
use Rattle.std.proofs.Common.{◌≡◌, ℕ, zero, suc, List, [], ◌∷◌, length, get_or, refl, arith}
use Rattle.std.specs.Prelude.{replicate}

-- a list of no length is empty
pub empty_from_length : {A : Type 0} (xs : List A) → length xs ≡ 0 → xs ≡ []
empty_from_length [] e = refl
empty_from_length (x ∷ xs) e = absurd (omega (arith, e))

-- each place of a list of one element has that element, and so has each place behind it where it is the default
pub get_or_replicate_default : {A : Type 0} (n k : ℕ) (x : A) → get_or (replicate n x) k x ≡ x
get_or_replicate_default zero k x = refl
get_or_replicate_default (suc n) zero x = refl
get_or_replicate_default (suc n) (suc k) x = get_or_replicate_default n k x
