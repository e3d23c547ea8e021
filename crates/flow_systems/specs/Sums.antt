-- The operations by which rows and forms are summed: from the left, starting with 0, each product with the coefficient on its left and then
-- added.
use Rattle.std.specs.Prelude.{ℤ, List, [], ◌∷◌, ◌++◌, Result}
use Rattle.base_numbers.specs.Rational.{ℚ, whole, zero_ℚ, ◌+ℚ◌, ◌*ℚ◌}
use Rattle.lang_tree.specs.declared.form.Form.{Form}
use Rattle.base_fractions.specs.declared.wide.Op.TheVariants.{Add, Mul}
use Rattle.base_fractions.specs.declared.wide.Wide.{Wide}
use Rattle.base_fractions.specs.Fits.{long_limit}
use Rattle.base_fractions.specs.Operation.{Operation, Answers}
use Rattle.flow_systems.specs.States.{RationalState, dotℚ}

-- a product that is added to a sum
abbrev pub product_operations : ℚ → ℤ → ℚ → List Operation
product_operations sum c x = record { op = Mul; left = whole c; right = x } ∷ record { op = Add; left = sum; right = whole c *ℚ x } ∷ []

-- the products of a row that are added to a sum
abbrev pub products_operations : ℚ → List ℤ → RationalState → List Operation
products_operations sum [] xs = []
products_operations sum (c ∷ cs) [] = []
products_operations sum (c ∷ cs) (x ∷ xs) = product_operations sum c x ++ products_operations (sum +ℚ (whole c *ℚ x)) cs xs

-- the value of a row
abbrev pub row_operations : List ℤ → RationalState → List Operation
row_operations row x = products_operations zero_ℚ row x

-- the value of a form: the constant is added last
abbrev pub form_operations : Form → RationalState → List Operation
form_operations form x = row_operations form.coeffs x ++ record { op = Add; left = dotℚ form.coeffs x; right = whole form.constant } ∷ []

-- the exact value where none of the operations is wide, and the first that is where one is
abbrev pub SumAnswers : ℚ → List Operation → Result ℚ (Wide ℚ) → Type 0
SumAnswers v operations result = Answers (λ q. q) long_limit v operations result
