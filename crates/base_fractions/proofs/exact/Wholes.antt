-- Sums and products of whole numbers, whose denominators are 1, as the code computes them.
use Rattle.std.proofs.Common.{◌≡◌, ◌≢◌, ℕ, zero, suc, ◌*◌, ◌^◌, ◌/◌, ◌<◌, T, ℤ, pos, negsuc, nat_abs, neg_ℤ, ◌+ℤ◌, ◌-ℤ◌, ◌*ℤ◌, FitsSigned}
use Rattle.std.proofs.Common.{to_z, of_z, refl, ap, ap₂, sym, ◌∙◌, lit<, arith}
use Prim.Native.Nat.{◌∣◌}
use native.Mathlib.Nat.{div-mul_cancel}
use mir.Syntax.{w64, w128}
use Rattle.std.proofs.lemmas.Int.{ints, to_z-of_z, to_z_pos}
use Rattle.base_numbers.specs.Rational.{ratio, whole, is_reduced, reduced_by, ◌+ℚ◌, ◌*ℚ◌}
use Rattle.base_numbers.proofs.gcd.Coprimes.{coprime-one}
use Rattle.base_numbers.proofs.rational.Laws.{whole-add, whole-mul}

-- a whole number over 1 is in lowest terms
pub whole_reduced : (n : ℤ) → T (is_reduced n 1)
whole_reduced n = reduced_by n 1 (lit< tt) (coprime-one (nat_abs n)).one

ratio-whole : (n : ℤ) → ratio n 1 ≡ whole n
unfolding whole
ratio-whole n = refl

ratio-one : (n : ℤ) {d : ℕ} → d ≡ 1 → ratio n d ≡ whole n
ratio-one n e = ap (ratio n) e ∙ ratio-whole n

-- the sum of a / 1 and b / 1
pub whole_sum : (a b n : ℤ) (d e : ℕ) → d ≡ 1 → e ≡ 1 → n ≡ a +ℤ b → ratio n 1 ≡ ratio a d +ℚ ratio b e
whole_sum a b n d e p q s = ratio-whole n ∙ ap whole s ∙ whole-add a b ∙ ap₂ (λ x y. x +ℚ y) (sym (ratio-one a p)) (sym (ratio-one b q))

-- the product of a / 1 and b / 1
pub whole_product : (a b n : ℤ) (d e : ℕ) → d ≡ 1 → e ≡ 1 → n ≡ a *ℤ b → ratio n 1 ≡ ratio a d *ℚ ratio b e
whole_product a b n d e p q s = ratio-whole n ∙ ap whole s ∙ whole-mul a b ∙ ap₂ (λ x y. x *ℚ y) (sym (ratio-one a p)) (sym (ratio-one b q))

-- the sum of two numbers of 64 bits as the code computes it in 128
pub whole_sum_read : (a b : ℤ) → FitsSigned w64 a → FitsSigned w64 b →
    to_z w128 (of_z w128 (to_z w128 (of_z w128 (to_z w64 (of_z w64 a))) +ℤ to_z w128 (of_z w128 (to_z w64 (of_z w64 b))))) ≡ a +ℤ b
whole_sum_read a b fa fb =
    let ga : FitsSigned w128 a = omega (arith, ints) in
    let gb : FitsSigned w128 b = omega (arith, ints) in
    let gs : FitsSigned w128 (a +ℤ b) = omega (arith, ints) in
    ap₂ (λ s t. to_z w128 (of_z w128 (s +ℤ t)))
    (ap (λ z. to_z w128 (of_z w128 z)) (to_z-of_z w64 a fa) ∙ to_z-of_z w128 a ga)
    (ap (λ z. to_z w128 (of_z w128 z)) (to_z-of_z w64 b fb) ∙ to_z-of_z w128 b gb)
    ∙ to_z-of_z w128 (a +ℤ b) gs

-- an integer below 0 whose size is s * g is -s * g
negative_times : (s g : ℕ) (t : ℤ) → s * g ≡ nat_abs t → t ≢ pos (nat_abs t) → (pos 0 -ℤ pos s) *ℤ pos g ≡ t
negative_times s g (pos k) e h = absurd (h refl)
negative_times zero g (negsuc k) e h = absurd (omega arith)
negative_times (suc j) g (negsuc k) e h = let n : pos 0 -ℤ pos (suc j) ≡ negsuc j = omega (arith, ints) in
    ap (λ x. x *ℤ pos g) n ∙ ap (λ x. neg_ℤ (pos x)) e

-- t / g as the code makes it of the quotient s of the size of t
module _ (t : ℤ) (g u s : ℕ) (eu : u ≡ nat_abs t) (es : s ≡ u / g) (d : g ∣ nat_abs t) (hs : s < 2 ^ 127) where
  sized : s * g ≡ nat_abs t
  sized = ap (λ x. x * g) (es ∙ ap (λ x. x / g) eu) ∙ div-mul_cancel g d

  -- the quotient of an integer that is at least 0 by a divisor g, times g, is the integer
  pub quotient_above : t ≡ pos (nat_abs t) → to_z w128 s *ℤ pos g ≡ t
  quotient_above h = ap (λ x. x *ℤ pos g) (to_z_pos w128 s hs) ∙ ap pos sized ∙ sym h

  -- the negated quotient of the size of an integer below 0 by a divisor g, times g, is the integer
  pub quotient_below : t ≢ pos (nat_abs t) → to_z w128 (of_z w128 (pos 0 -ℤ to_z w128 s)) *ℤ pos g ≡ t
  quotient_below h =
      let f : FitsSigned w128 (pos 0 -ℤ pos s) = omega (arith, ints) in
      ap (λ x. to_z w128 (of_z w128 (pos 0 -ℤ x)) *ℤ pos g) (to_z_pos w128 s hs) ∙ ap (λ x. x *ℤ pos g) (to_z-of_z w128 (pos 0 -ℤ pos s) f)
      ∙ negative_times s g t sized h
