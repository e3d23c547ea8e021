-- What sums, alternatives and right sides are worth where each name has an extended number.
use Rattle.std.specs.Prelude.{◌&&◌, ◌||◌, ℕ, zero, suc, ℤ, pos, negsuc, Bool, true, false, if◌then◌else◌, List, [], ◌∷◌}
use Rattle.std.specs.Ordering.{min_by_ordering, max_by_ordering}
use Rattle.base_numbers.specs.Rational.{ℚ, whole, zero_ℚ, ◌+ℚ◌, ◌*ℚ◌, ◌/ℚ◌}
use Rattle.base_numbers.specs.Extended.{Ext, neg_inf, fin, pos_inf}
use Rattle.base_numbers.specs.Compare.{cmp_ᴱ}
use Rattle.flow_rationals.specs.declared.equation.Sum.{Sum}
use Rattle.flow_rationals.specs.declared.equation.Equation.{Equation}

-- an extended number for each name, by its place among the equations
abbrev pub Values : Type 0
Values = ℕ → Ext

-- the values of the names after the first
abbrev pub later : Values → Values
later values k = values (suc k)

-- +inf
abbrev pub is_pos_inf : Ext → Bool
is_pos_inf neg_inf = false
is_pos_inf (fin q) = false
is_pos_inf pos_inf = true

-- -inf
abbrev pub is_neg_inf : Ext → Bool
is_neg_inf neg_inf = true
is_neg_inf (fin q) = false
is_neg_inf pos_inf = false

-- the fraction, and 0 in place of an infinity
abbrev pub number : Ext → ℚ
number neg_inf = zero_ℚ
number (fin q) = q
number pos_inf = zero_ℚ

-- above 0
abbrev pub is_positive : ℤ → Bool
is_positive (pos zero) = false
is_positive (pos (suc n)) = true
is_positive (negsuc n) = false

-- some name has a coefficient above 0 and such a value
abbrev pub has_part : (Ext → Bool) → List ℤ → Values → Bool
has_part test [] values = false
has_part test (c ∷ cs) values = (is_positive c && test (values 0)) || has_part test cs (later values)

-- the sum of coefficients times fractions
abbrev pub parts_sum : List ℤ → Values → ℚ
parts_sum [] values = zero_ℚ
parts_sum (c ∷ cs) values = (whole c *ℚ number (values 0)) +ℚ parts_sum cs (later values)

-- +inf where a name with a coefficient above 0 has it, else -inf where one has that, else the fraction
abbrev pub sum_value : Sum → Values → Ext
sum_value s values =
    if has_part is_pos_inf s.coeffs values then pos_inf
    else if has_part is_neg_inf s.coeffs values then neg_inf
    else fin ((parts_sum s.coeffs values +ℚ whole s.constant) /ℚ whole s.den)

-- the lesser of two
abbrev pub lesser : Ext → Ext → Ext
lesser x y = min_by_ordering (cmp_ᴱ x y) x y

-- the greater of two
abbrev pub greater : Ext → Ext → Ext
greater x y = max_by_ordering (cmp_ᴱ x y) x y

-- the least of the sums
abbrev pub least_value : List Sum → Values → Ext
least_value [] values = pos_inf
least_value (s ∷ sums) values = lesser (sum_value s values) (least_value sums values)

-- the greatest of a value and of alternatives
abbrev pub greatest_value : Ext → List (List Sum) → Values → Ext
greatest_value x [] values = x
greatest_value x (sums ∷ more) values = greater (least_value sums values) (greatest_value x more values)

-- the right side: the greatest of the start and of the alternatives
abbrev pub right_side : Equation → Values → Ext
right_side e values = greatest_value (fin e.start) e.alternatives values
