-- Whole numbers below a fraction fit where it does.
use Rattle.std.proofs.Common.{◌≡◌, ◌∙◌, ℕ, ◌≤◌, ℤ, pos, negsuc, nat_abs, to_z, of_z, ap, sym, arith}
use mir.Syntax.{w64}
use Rattle.std.specs.Prelude.{IsTrue, ◌+ℤ◌}
use Rattle.std.proofs.Math.Nat.{div-le_self}
use Rattle.std.proofs.lemmas.Bool.{le-leb}
use Rattle.std.proofs.lemmas.Int.{ints}
use lib.Signed.{shr_z}
use Rattle.base_numbers.specs.Rational.{ℚ, ratio, whole, floor, one_ℚ, ◌+ℚ◌}
use Rattle.base_numbers.proofs.rational.Parts.{ratio-parts}
use Rattle.base_numbers.proofs.rational.Laws.{floor-whole, whole-add, whole-one}
use Rattle.base_fractions.specs.Fits.{Fits, long_limit}
use Rattle.lang_tree.specs.Numbers.{is_number}
use Rattle.flow_systems.proofs.states.Summed.{number_same}

shift_small : (z : ℤ) (d : ℕ) → nat_abs (shr_z z d) ≤ nat_abs z
shift_small (pos n) d = div-le_self n d
shift_small (negsuc n) d = let l = div-le_self n d in omega (arith, l)

-- the floor of a fraction that fits is a number that fits
pub floor_number : (q : ℚ) → Fits long_limit q → IsTrue (is_number (floor q))
unfolding floor
floor_number q h = let l = shift_small q.num q.den in let f = h.num_fits in
    le-leb (nat_abs (shr_z q.num q.den)) 9223372036854775807 (omega (arith, ints, l, f))

-- a number whose denominator is 1 is its own floor
own_whole : (q : ℚ) → q.den ≡ 1 → q ≡ whole q.num
unfolding whole
own_whole q e = sym (ratio-parts q) ∙ ap (ratio q.num) e

-- a fraction with denominator one is its own floor
pub own_floor : (q : ℚ) → q.den ≡ 1 → q ≡ whole (floor q)
own_floor q e = own_whole q e ∙ ap whole (sym (floor-whole q.num) ∙ ap floor (sym (own_whole q e)))

-- a denominator that code reads as 1 is 1
pub den_one : (q : ℚ) (z : ℤ) → Fits long_limit q → z ≡ pos q.den → of_z w64 z ≡ 1 → q.den ≡ 1
den_one q z h e f =
    let d = h.den_fits in
    let n : IsTrue (is_number (pos q.den)) = le-leb q.den 9223372036854775807 (omega (arith, ints, d)) in
    ap nat_abs (sym (number_same (pos q.den) n) ∙ ap (λ x. to_z w64 (of_z w64 x)) (sym e) ∙ ap (to_z w64) f)

-- one more
pub one_more : (z : ℤ) → whole z +ℚ one_ℚ ≡ whole (z +ℤ pos 1)
one_more z = ap (λ y. whole z +ℚ y) (sym whole-one) ∙ sym (whole-add z (pos 1))
