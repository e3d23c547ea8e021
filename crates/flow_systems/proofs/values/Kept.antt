-- Values at the front of a longer list, which has 0 behind them.
use Rattle.std.proofs.Common.{◌≡◌, ◌∙◌, ℕ, zero, suc, ◌+◌, ◌-◌, ◌<◌, ◌≤◌, List, [], ◌∷◌, ◌++◌, length, take, drop, replicate, refl, ap, sym}
use Rattle.std.proofs.Common.{subst, arith}
use Rattle.std.specs.Prelude.{slice_set}
use Rattle.std.proofs.lemmas.List.{take-append-drop, length-take-le, length-set, drop-set-lt}
use Rattle.base_numbers.specs.Rational.{ℚ, zero_ℚ}
use Rattle.lang_tree.specs.Meaning.{put}
use Rattle.lang_tree.proofs.Put.{put_within}

abbrev zeros : ℕ → List ℚ
zeros m = replicate m zero_ℚ

take_set : (n : ℕ) (a : List ℚ) (k : ℕ) (q : ℚ) → take n (slice_set a k q) ≡ slice_set (take n a) k q
take_set zero a k q = refl
take_set (suc n) [] k q = refl
take_set (suc n) (x ∷ a) zero q = refl
take_set (suc n) (x ∷ a) (suc k) q = ap (λ r. x ∷ r) (take_set n a k q)

-- a value that is put among them
pub put_among : (n : ℕ) (a : List ℚ) (k : ℕ) (q : ℚ) → n ≤ length a → k < n → take n (slice_set a k q) ≡ put zero_ℚ (take n a) k q
put_among n a k q h l = take_set n a k q ∙ sym (put_within zero_ℚ (take n a) k q (omega (arith, l, length-take-le n a h)))

-- the rest stays
pub rest_among : (n : ℕ) (a : List ℚ) (k : ℕ) (q : ℚ) → k < n → drop n (slice_set a k q) ≡ drop n a
rest_among n a k q l = drop-set-lt n a k q l

-- ---- behind them
front_behind : (x : List ℚ) (m k : ℕ) (q : ℚ) → length x ≤ k → k < length x + m
    → take (suc k) (slice_set (x ++ zeros m) k q) ≡ put zero_ℚ x k q
front_behind [] zero k q h l = absurd (omega arith)
front_behind [] (suc m) zero q h l = refl
front_behind [] (suc m) (suc k) q h l = ap (λ r. zero_ℚ ∷ r) (front_behind [] m k q (omega arith) (omega arith))
front_behind (y ∷ x) m zero q h l = absurd (omega arith)
front_behind (y ∷ x) m (suc k) q h l = ap (λ r. y ∷ r) (front_behind x m k q (omega arith) (omega arith))

rest_behind : (x : List ℚ) (m k : ℕ) (q : ℚ) → length x ≤ k → k < length x + m
    → drop (suc k) (slice_set (x ++ zeros m) k q) ≡ zeros (length x + m - suc k)
rest_behind [] zero k q h l = absurd (omega arith)
rest_behind [] (suc m) zero q h l = ap zeros (omega arith)
rest_behind [] (suc m) (suc k) q h l = rest_behind [] m k q (omega arith) (omega arith) ∙ ap zeros (omega arith)
rest_behind (y ∷ x) m zero q h l = absurd (omega arith)
rest_behind (y ∷ x) m (suc k) q h l = rest_behind x m k q (omega arith) (omega arith) ∙ ap zeros (omega arith)

module _ (n : ℕ) (a : List ℚ) (h : n ≤ length a) (e : drop n a ≡ zeros (length a - n)) (k : ℕ) (q : ℚ) (l : n ≤ k) (b : k < length a) where
  parts : a ≡ take n a ++ zeros (length a - n)
  parts = sym (take-append-drop n a) ∙ ap (λ r. take n a ++ r) e

  next : k + 1 ≡ suc k
  next = omega arith

  -- a value that is put behind them, with 0 between
  pub put_after : take (k + 1) (slice_set a k q) ≡ put zero_ℚ (take n a) k q
  put_after =
      let s = length-take-le n a h in
      ap (λ m. take m (slice_set a k q)) next
      ∙ ap (λ r. take (suc k) (slice_set r k q)) parts
      ∙ front_behind (take n a) (length a - n) k q (omega (arith, s, l)) (omega (arith, s, l, b, h))

  -- and 0 behind it
  pub rest_after : drop (k + 1) (slice_set a k q) ≡ zeros (length (slice_set a k q) - (k + 1))
  rest_after =
      let s = length-take-le n a h in
      ap (λ m. drop m (slice_set a k q)) next
      ∙ ap (λ r. drop (suc k) (slice_set r k q)) parts
      ∙ rest_behind (take n a) (length a - n) k q (omega (arith, s, l)) (omega (arith, s, l, b, h))
      ∙ ap zeros (omega (arith, s, h, b, length-set a k q))

-- a value that is put right behind a list
pub put_next : (x : List ℚ) (k : ℕ) (q : ℚ) → length x ≡ k → put zero_ℚ x k q ≡ x ++ q ∷ []
put_next [] zero q h = refl
put_next [] (suc k) q h = absurd (omega arith)
put_next (y ∷ x) zero q h = absurd (omega arith)
put_next (y ∷ x) (suc k) q h = ap (λ r. y ∷ r) (put_next x k q (omega arith))
