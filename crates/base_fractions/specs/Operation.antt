-- Operations on exact numbers, and the first of a list whose result is too wide for a field.
use Rattle.std.specs.Prelude.{◌≡◌, ℤ, pos, nat_abs, Bool, not, ◌&&◌, List, [], ◌∷◌, Option, Some, None, Result, MatchResult, find}
use lib.Signed.{le_z}
use Rattle.base_numbers.specs.Rational.{ℚ, ◌+ℚ◌, ◌-ℚ◌, ◌*ℚ◌, ◌/ℚ◌}
use Rattle.base_fractions.specs.declared.wide.Op.{Op}
use Rattle.base_fractions.specs.declared.wide.Op.TheVariants.{Add, Sub, Mul, Div}
use Rattle.base_fractions.specs.declared.wide.Wide.{Wide}

-- an operation and its two operands
pub record Operation : Type 0 where
  pub op : Op
  pub left : ℚ
  pub right : ℚ

-- the exact result
abbrev pub result_by : Op → ℚ → ℚ → ℚ
result_by Add a b = a +ℚ b
result_by Sub a b = a -ℚ b
result_by Mul a b = a *ℚ b
result_by Div a b = a /ℚ b

-- the exact result of an operation
abbrev pub result_of : Operation → ℚ
result_of o = result_by o.op o.left o.right

-- the parts of a number are at most the limit
unfoldable pub fits : ℤ → ℚ → Bool
fits limit q = le_z (pos (nat_abs q.num)) limit && le_z (pos q.den) limit

-- the result has a part above the limit
abbrev pub is_wide : ℤ → Operation → Bool
is_wide limit o = not (fits limit (result_of o))

-- the first of the operations that is wide
abbrev pub first_wide : ℤ → List Operation → Option Operation
first_wide limit os = find (is_wide limit) os

-- the operation that a refusal carries, where m gives the number that a value stands for
abbrev pub operation_of : {F : Type 0} → (F → ℚ) → Wide F → Operation
operation_of m w = record { op = w.op; left = m w.left; right = m w.right }

-- the operations of a + f * b: the product, and then the sum
abbrev pub product_sum_operations : ℚ → ℚ → ℚ → List Operation
product_sum_operations a f b = record { op = Mul; left = f; right = b } ∷ record { op = Add; left = a; right = f *ℚ b } ∷ []

-- the result is the number v and none of the operations is wide, or it is the first that is
abbrev pub Answers : {F : Type 0} → (F → ℚ) → ℤ → ℚ → List Operation → Result F (Wide F) → Type 0
Answers m limit v os result =
    MatchResult result (λ r. (m r ≡ v) × (first_wide limit os ≡ None)) (λ w. first_wide limit os ≡ Some (operation_of m w))
