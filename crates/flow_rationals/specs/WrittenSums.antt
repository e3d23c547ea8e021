-- What a written sum amounts to over the least common multiple of its denominators.
use Rattle.std.specs.Prelude.{◌==◌, ◌&&◌, ◌++◌, ◌*◌, ◌/◌, ℕ, ℤ, pos, ◌+ℤ◌, ◌*ℤ◌, Bool, true, if◌then◌else◌, List, [], ◌∷◌, length, map}
use Rattle.std.specs.Prelude.{fold, nat_le, unwrap_or, Option, Some, None}
use Rattle.std.specs.List.{position, range_with_len}
use Rattle.std.specs.Str.{bytes_eq}
use Rattle.base_numbers.specs.Gcd.{gcd}
use Rattle.base_numbers.specs.Rational.{ℚ, whole, neg_ℚ, ◌/ℚ◌}
use Rattle.lang_tree.specs.Numbers.{is_number}
use Rattle.flow_rationals.specs.declared.reading.written.Below.{Below}
use Rattle.flow_rationals.specs.declared.reading.written.Ratio.{Ratio}
use Rattle.flow_rationals.specs.declared.reading.written.Part.{Part}
use Rattle.flow_rationals.specs.declared.reading.written.Part.TheVariants.{Multiple, Constant}
use Rattle.flow_rationals.specs.declared.reading.written.Addends.{Addends}
use Rattle.flow_rationals.specs.declared.reading.written.Written.{Written}
use Rattle.flow_rationals.specs.declared.equation.Sum.{Sum}

-- the second number of a ratio, and 1 where there is none
abbrev pub den_of : Option Below → ℕ
den_of None = 1
den_of (Some b) = b.den

-- the second number of a factor
abbrev pub factor_below : Option Ratio → Option Below
factor_below None = None
factor_below (Some r) = r.below

-- the second number of a part's ratio
abbrev pub part_below : Part → Option Below
part_below (Multiple factor name at) = factor_below factor
part_below (Constant minus ratio) = ratio.below

-- the fraction of a ratio
abbrev pub ratio_value : Ratio → ℚ
ratio_value r = whole (pos r.num) /ℚ whole (pos (den_of r.below))

-- the fraction with the sign before it
abbrev pub signed_value : Option ℕ → ℚ → ℚ
signed_value None q = q
signed_value (Some at) q = neg_ℚ q

-- the factor of a name, and 1 where there is none
abbrev pub factor_value : Option Ratio → ℚ
factor_value None = whole (pos 1)
factor_value (Some r) = ratio_value r

-- the coefficient of a multiple, or the constant itself
abbrev pub part_value : Part → ℚ
part_value (Multiple factor name at) = factor_value factor
part_value (Constant minus ratio) = signed_value minus (ratio_value ratio)

-- the name is that of the equation
abbrev pub is_named : List ℕ → Written → Bool
is_named name e = bytes_eq e.name name

-- the number of the equation that a part has as its name; a constant has the number of equations
abbrev pub key : List Written → Part → ℕ
key es (Multiple factor name at) = unwrap_or (position (is_named name) es) (length es)
key es (Constant minus ratio) = length es

-- the parts of a sum
abbrev pub parts_of : Addends → List Part
parts_of s = s.first ∷ s.more

-- the least common multiple
abbrev pub lcm : ℕ → ℕ → ℕ
lcm a b = a / gcd a b * b

-- the least common multiple of a number and the denominators in lowest terms
abbrev pub common_multiple_of : ℕ → List Part → ℕ
common_multiple_of m ps = fold (λ n p. lcm n (part_value p).den) m ps

-- the least common multiple of the denominators
abbrev pub common_den : List Part → ℕ
common_den [] = 1
common_den (p ∷ ps) = common_multiple_of (part_value p).den ps

-- a part over a common denominator
abbrev pub scaled_value : ℕ → Part → ℤ
scaled_value den p = (part_value p).num *ℤ pos (den / (part_value p).den)

-- what a part adds over a common denominator, and to which name
abbrev pub Amount : Type 0
Amount = ℕ × ℤ

-- a part's amount: the name that it goes to, and what it adds over the common denominator
abbrev pub amount : List Written → ℕ → Part → Amount
amount es den p = (key es p, scaled_value den p)

-- what an amount adds to a name
abbrev pub share : ℕ → Amount → ℤ
share k a = if a.0 == k then a.1 else pos 0

-- what amounts add up to for a name
abbrev pub total : ℕ → List Amount → ℤ
total k amounts = fold (λ sum a. sum +ℤ share k a) (pos 0) amounts

-- an amount after these is within 2^63 - 1, and so is the sum for its name from the left
abbrev pub fits_after : List Amount → Amount → Bool
fits_after before a = is_number a.1 && is_number (total a.0 before +ℤ a.1)

-- so is each of these after those before it
abbrev pub stay_within : List Amount → List Amount → Bool
stay_within before [] = true
stay_within before (a ∷ amounts) = fits_after before a && stay_within (before ++ a ∷ []) amounts

-- the amounts of a sum's parts
abbrev pub amounts_of : List Written → Addends → List Amount
amounts_of es s = map (amount es (common_den (parts_of s))) (parts_of s)

-- the common denominator, the amounts and their sums from the left are all within 2^63 - 1
abbrev pub is_small : List Written → Addends → Bool
is_small es s = nat_le (common_den (parts_of s)) 9223372036854775807 && stay_within [] (amounts_of es s)

-- the sum over its common denominator
abbrev pub sum_of : List Written → Addends → Sum
sum_of es s = record {
  coeffs = map (λ k. total k (amounts_of es s)) (range_with_len 0 (length es));
  constant = total (length es) (amounts_of es s);
  den = pos (common_den (parts_of s));
}
