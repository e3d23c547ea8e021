-- Evidence and its numbers of guards, one piece after another.
use Rattle.std.proofs.Common.{◌≡◌, ◌+◌, ◌<◌, ℕ, zero, suc, List, [], ◌∷◌, length, drop, get_or, refl, ap, ◌∙◌, arith}
use Rattle.cert_types.specs.declared.upper.Upper.{Upper}
use Rattle.cert_written.specs.declared.upper.Upper.{Upper as Written}
use Rattle.cert_fitted.specs.Fitted.{upper_for, uppers_for}

module _ (rows : ℕ) where
  -- as many pieces as are written
  pub as_many : (counts : List ℕ) (us : List Written) → length (uppers_for rows counts us) ≡ length us
  as_many counts [] = refl
  as_many [] (u ∷ us) = ap suc (as_many [] us)
  as_many (n ∷ counts) (u ∷ us) = ap suc (as_many counts us)

  -- the piece at a place
  pub piece_at : (counts : List ℕ) (us : List Written) (i : ℕ) (u : Written) (d : Upper) → i < length us → u ≡ get_or us i u
      → upper_for rows (get_or counts i 0) u ≡ get_or (uppers_for rows counts us) i d
  piece_at counts [] i u d lt is = absurd (omega arith)
  piece_at [] (w ∷ us) zero u d lt is = ap (upper_for rows 0) is
  piece_at [] (w ∷ us) (suc i) u d lt is = piece_at [] us i u d (omega arith) is
  piece_at (n ∷ counts) (w ∷ us) zero u d lt is = ap (upper_for rows n) is
  piece_at (n ∷ counts) (w ∷ us) (suc i) u d lt is = piece_at counts us i u d (omega arith) is

-- the first number of those from a place on, and the others
pub count_next : (xs : List ℕ) (i y : ℕ) (ys : List ℕ) → drop i xs ≡ y ∷ ys → (get_or xs i 0 ≡ y) × (drop (i + 1) xs ≡ ys)
count_next [] zero y ys e = cc
count_next [] (suc i) y ys e = cc
count_next (x ∷ xs) zero y ys e = (cc, cc)
count_next (x ∷ xs) (suc i) y ys e =
    let more = count_next xs i y ys e in
    (more.0, ap (λ n. drop n (x ∷ xs)) (let f : suc i + 1 ≡ suc (i + 1) = omega arith in f) ∙ more.1)
