-- What comes next of a list, and that it isn't its first.
use Rattle.std.proofs.Common.{◌≡◌, ◌<◌, ℕ, zero, suc, List, [], ◌∷◌, drop, length, nat_lt, true, refl, arith}
use Rattle.std.proofs.lemmas.Bool.{lt-ltb}

-- there is an element at each place within a list
pub drop_next : {A : Type 0} (xs : List A) (i : ℕ) → i < length xs → (x : A) × (drop i xs ≡ x ∷ drop (suc i) xs)
drop_next [] i h = absurd (omega arith)
drop_next (x ∷ xs) zero h = (x, refl)
drop_next (x ∷ xs) (suc i) h = drop_next xs i (omega arith)

-- behind an element there is none that is the first
pub later_next : (i : ℕ) → nat_lt 0 (suc i) ≡ true
later_next i = lt-ltb 0 (suc i) (omega arith)
