-- The values of opposite rows, and of rows under their bounds.
use Rattle.std.proofs.Common.{◌≡◌, ◌==◌, ◌+◌, ◌*◌, ◌≤◌, ℕ, ℤ, pos, neg_ℤ, nat_abs, ◌+ℤ◌, ◌*ℤ◌, ◌≤ℤ◌, true, List, [], ◌∷◌, refl, ap, subst}
use Rattle.std.proofs.Common.{◌∙◌, arith}
use Rattle.std.proofs.Math.IntN.{*ℤ_comm}
use Rattle.std.proofs.lemmas.Bool.{and_parts, eqb-true}
use borrow.Author.Differences.{up, down, ints, at_most_in, product_is, neg_is, same_in}
use Rattle.base_numbers.specs.Rational.{ℚ, whole, ◌≤ℚ◌}
use Rattle.base_numbers.proofs.rational.Reps.{rep, rep_whole, le_rep}
use Rattle.lang_tree.specs.Meaning.{State, dot}
use Rattle.acsl_notes.specs.Clauses.{is_opposite}

-- a whole number that is at most a fraction, times its denominator
pub at_most_num : (z : ℤ) (q : ℚ) → whole z ≤ℚ q → (pos q.den *ℤ z) ≤ℤ q.num
at_most_num z q h =
    let l : up z * q.den + down q.num * 1 ≤ down z * q.den + up q.num * 1 = le_rep (rep_whole z) (rep q) h in
    at_most_in (pos q.den *ℤ z) q.num (omega (arith, product_is (pos q.den) z))

-- numbers with the sum 0 are opposite
pub opposite_of_sum : (c d : ℤ) → (nat_abs (c +ℤ d) == 0) ≡ true → d ≡ neg_ℤ c
opposite_of_sum c d h = let none : nat_abs (c +ℤ d) ≡ 0 = eqb-true (nat_abs (c +ℤ d)) 0 h in omega (arith, ints)

-- a negative factor
neg-times : (a b : ℤ) → neg_ℤ a *ℤ b ≡ neg_ℤ (a *ℤ b)
neg-times a b =
    let e = neg_is a in
    let f = neg_is (a *ℤ b) in
    let p = product_is a b in
    let q = product_is (neg_ℤ a) b in
    let g1 = ap (λ n. n * up b) e.0 in
    let g2 = ap (λ n. n * down b) e.1 in
    let g3 = ap (λ n. n * down b) e.0 in
    let g4 = ap (λ n. n * up b) e.1 in
    same_in (neg_ℤ a *ℤ b) (neg_ℤ (a *ℤ b)) (omega arith)

-- a negative second factor
times-neg : (a b : ℤ) → a *ℤ neg_ℤ b ≡ neg_ℤ (a *ℤ b)
times-neg a b = *ℤ_comm a (neg_ℤ b) ∙ neg-times b a ∙ ap neg_ℤ (*ℤ_comm b a)

-- opposite products behind opposite sums
opposite_step : (c d x s t : ℤ) → d ≡ neg_ℤ c → t ≡ neg_ℤ s → d *ℤ x +ℤ t ≡ neg_ℤ (c *ℤ x +ℤ s)
opposite_step c d x s t e f =
    let g : d *ℤ x ≡ neg_ℤ (c *ℤ x) = ap (λ k. k *ℤ x) e ∙ neg-times c x in
    omega (arith, ints)

-- opposite rows have opposite values
pub opposite_dot : (row other : List ℤ) (x : State) → is_opposite row other ≡ true → dot other x ≡ neg_ℤ (dot row x)
opposite_dot [] [] x h = refl
opposite_dot [] (d ∷ ds) x h = cc
opposite_dot (c ∷ cs) [] x h = cc
opposite_dot (c ∷ cs) (d ∷ ds) [] h = refl
opposite_dot (c ∷ cs) (d ∷ ds) (y ∷ x) h =
    let parts = and_parts (nat_abs (c +ℤ d) == 0) (is_opposite cs ds) h in
    opposite_step c d y (dot cs x) (dot ds x) (opposite_of_sum c d parts.0) (opposite_dot cs ds x parts.1)

-- both bounds together
pub between_opposites : (z n : ℤ) (d : ℕ) → (pos d *ℤ z) ≤ℤ n → (pos d *ℤ neg_ℤ z) ≤ℤ neg_ℤ n → (pos d *ℤ z) ≡ n
between_opposites z n d h k =
    let l : neg_ℤ (pos d *ℤ z) ≤ℤ neg_ℤ n = subst (λ m. m ≤ℤ neg_ℤ n) (times-neg (pos d) z) k in
    by (pos d *ℤ z) h l
  where
    by : (m : ℤ) → m ≤ℤ n → neg_ℤ m ≤ℤ neg_ℤ n → m ≡ n
    by m h l = omega (arith, ints)
