-- A value at the end of a list that a further value is put behind.
use Rattle.std.proofs.Common.{◌≡◌, ℕ, zero, suc, ◌≤◌, List, [], ◌∷◌, ◌++◌, length, refl, ap, arith}
use Rattle.lang_tree.specs.Meaning.{put}

-- what the list lacks before the place is put there anyway
pub put_pushed : {A : Type 0} (o : A) (xs : List A) (k : ℕ) (x : A) → length xs ≤ k → put o (xs ++ o ∷ []) k x ≡ put o xs k x
put_pushed o [] zero x h = refl
put_pushed o [] (suc k) x h = refl
put_pushed o (y ∷ ys) zero x h = absurd (omega arith)
put_pushed o (y ∷ ys) (suc k) x h = ap (λ r. y ∷ r) (put_pushed o ys k x (omega arith))
