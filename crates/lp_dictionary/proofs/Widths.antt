-- The test for 0; what the operations of a field answer is said where fractions are.
use Rattle.std.proofs.Common.{◌≡◌, ◌≢◌, true, false, ℤ, pos, negsuc, zero, suc, refl, ap}
use Rattle.base_numbers.specs.Rational.{ℚ, zero_ℚ}
use Rattle.base_numbers.proofs.rational.Quotients.{zero_by_num}
use Rattle.lp_dictionary.specs.Formulas.{is_zero, is_zero_num}
pub use Rattle.base_fractions.proofs.operation.Widths.{first_wide_later, first_wide_sooner, first_wide_past, first_wide_here, one_answer}

-- the test for 0 passes at 0
pub is_zero_yes : (q : ℚ) → q ≡ zero_ℚ → is_zero q ≡ true
is_zero_yes q e = ap is_zero_num ((zero_by_num q).1 e)

-- the test for 0 fails at any other number
pub is_zero_no : (q : ℚ) → q ≢ zero_ℚ → is_zero q ≡ false
is_zero_no q n = by q.num refl
  where
    by : (z : ℤ) → q.num ≡ z → is_zero_num z ≡ false
    by (pos zero) e = absurd (n ((zero_by_num q).0 e))
    by (pos (suc k)) e = refl
    by (negsuc k) e = refl
