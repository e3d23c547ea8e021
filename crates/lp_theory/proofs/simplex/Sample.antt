-- A problem whose outcome is computed: the greatest x with x ≤ 2 and x ≥ 1 is 2.
use Rattle.std.proofs.Common.{◌≡◌, [], ◌∷◌, pos, negsuc, refl}
use Rattle.base_numbers.specs.Rational.{ℚ, whole, zero_ℚ, one_ℚ, ratio, ◌+ℚ◌, ◌*ℚ◌, neg_ℚ, ◌-ℚ◌, inv_ℚ, ◌/ℚ◌, lt_ℚ, is_reduced}
use Rattle.base_numbers.specs.Gcd.{gcd, gcd_within}
use Rattle.lp_theory.specs.Dictionary.{delta, pivot, share, drop_zero}
use Rattle.lp_theory.specs.Search.{first, least}
use Rattle.lp_theory.specs.Bland.{ratio_of, entering, leaving, choose, next, after, stop_index}
use Rattle.lp_theory.specs.Problem.{Outcome, best, unbounded, empty}
use Rattle.lp_theory.specs.Listed.{list_problem}
use Rattle.lp_theory.specs.Simplex.{lp, lowest, phase_one, last_of_one, phase_one_index, phase_two, last_of, first_dict, role}

-- the best value, and -1 or -2 where there is none
value_of : Outcome → ℚ
value_of (best x v y) = v
value_of (unbounded x d) = whole (negsuc 0)
value_of (empty y) = whole (negsuc 1)

-- phase 1, phase 2 and the value of `lp` by computation alone
sample : value_of (lp (list_problem 1 ((whole (pos 1) ∷ []) ∷ (whole (negsuc 0) ∷ []) ∷ []) (whole (pos 2) ∷ whole (negsuc 0) ∷ [])
    (whole (pos 1) ∷ []))) ≡ whole (pos 2)
unfolding value_of lp lowest phase_one last_of_one phase_one_index phase_two last_of stop_index after next choose entering leaving ratio_of
    first least pivot share drop_zero first_dict role delta whole zero_ℚ one_ℚ ratio ◌+ℚ◌ ◌*ℚ◌ neg_ℚ ◌-ℚ◌ inv_ℚ ◌/ℚ◌ lt_ℚ gcd gcd_within
    is_reduced
sample = refl
