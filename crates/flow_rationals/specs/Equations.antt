-- Which equations are within the limits.
use Rattle.std.specs.Prelude.{◌==◌, ◌&&◌, ℕ, ℤ, pos, negsuc, Bool, false, List, length, nat_le}
use Rattle.std.specs.List.{list_all, sum_by}
use Rattle.base_numbers.specs.Rational.{ℚ}
use Rattle.lang_tree.specs.Numbers.{is_number}
use Rattle.flow_rationals.specs.declared.equation.Sum.{Sum}
use Rattle.flow_rationals.specs.declared.equation.Equation.{Equation}
use Rattle.flow_rationals.specs.declared.limits.TheConstants.{MOST_EQUATIONS, MOST_ALTERNATIVES, MOST_SUMS}

-- at least this, and at most 2^63 - 1
abbrev pub is_from : ℕ → ℤ → Bool
is_from least (pos n) = nat_le least n && nat_le n 9223372036854775807
is_from least (negsuc n) = false

-- one coefficient for each of n names, none below 0, and a denominator of at least 1; numbers within 2^63 - 1
abbrev pub is_sum : ℕ → Sum → Bool
is_sum n s = (length s.coeffs == n) && (list_all (is_from 0) s.coeffs && (is_number s.constant && is_from 1 s.den))

-- at least one sum, and no more than there may be
abbrev pub is_alternative : ℕ → List Sum → Bool
is_alternative n sums = nat_le 1 (length sums) && (nat_le (length sums) MOST_SUMS && list_all (is_sum n) sums)

-- a fraction whose parts are within 2^63 - 1
abbrev pub is_start : ℚ → Bool
is_start q = is_number q.num && nat_le q.den 9223372036854775807

-- a start, and alternatives over n names
abbrev pub is_equation : ℕ → Equation → Bool
is_equation n e = is_start e.start && list_all (is_alternative n) e.alternatives

-- how many alternatives there are in all
abbrev pub alternative_count : List Equation → ℕ
alternative_count equations = sum_by (λ e. length e.alternatives) equations

-- at least one equation over the names of all, and no more of them and of their alternatives than there may be
abbrev pub are_equations : List Equation → Bool
are_equations equations =
    (nat_le 1 (length equations) && nat_le (length equations) MOST_EQUATIONS)
    && (nat_le (alternative_count equations) MOST_ALTERNATIVES && list_all (is_equation (length equations)) equations)
