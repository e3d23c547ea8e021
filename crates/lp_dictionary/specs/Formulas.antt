-- The four formulas of a pivot on rows, and the operations that each of them makes.
-- A row is a function of the column; c is the pivot's column. A zero factor makes no operation.
use Rattle.std.specs.Prelude.{ℕ, zero, suc, ℤ, pos, negsuc, Bool, true, false, cond, eqb, List, [], ◌∷◌}
use Rattle.base_numbers.specs.Rational.{ℚ, one_ℚ, neg_ℚ, ◌+ℚ◌, ◌*ℚ◌, ◌/ℚ◌}
use Rattle.base_fractions.specs.declared.wide.Op.TheVariants.{Add, Mul, Div}
use Rattle.base_fractions.specs.Operation.{Operation}

-- the numerator is 0
abbrev pub is_zero_num : ℤ → Bool
is_zero_num (pos zero) = true
is_zero_num (pos (suc n)) = false
is_zero_num (negsuc n) = false

-- the number is 0
abbrev pub is_zero : ℚ → Bool
is_zero q = is_zero_num q.num

-- formulas 1 and 2, from the old entry a and the pivot p: 1 / p in the pivot's column, else -(a / p)
abbrev pub divided : ℚ → ℚ → Bool → ℚ
divided a p true = one_ℚ /ℚ p
divided a p false = neg_ℚ (a /ℚ p)

-- the division of a by p, if a is not 0
abbrev pub division : ℚ → ℚ → List Operation
division a p = cond (is_zero a) [] (record { op = Div; left = a; right = p } ∷ [])

-- the operations of formulas 1 and 2
abbrev pub divided_operations : ℚ → ℚ → Bool → List Operation
divided_operations a p true = record { op = Div; left = one_ℚ; right = p } ∷ []
divided_operations a p false = division a p

-- formulas 3 and 4, from the old entry a, its row's entry f in the pivot's column, and the pivot row's new entry b:
-- f * b in the pivot's column, else a + f * b
abbrev pub combined : ℚ → ℚ → ℚ → Bool → ℚ
combined a f b true = f *ℚ b
combined a f b false = a +ℚ f *ℚ b

-- the operations, unless one of the factors is 0
abbrev pub unless_zero : ℚ → ℚ → List Operation → List Operation
unless_zero f b os = cond (is_zero f) [] (cond (is_zero b) [] os)

-- the operation of formula 3
abbrev pub product_operations : ℚ → ℚ → List Operation
product_operations f b = unless_zero f b (record { op = Mul; left = f; right = b } ∷ [])

-- formula 4, which leaves the entry in the pivot's column as it is
abbrev pub added : ℚ → ℚ → ℚ → Bool → ℚ
added a f b true = a
added a f b false = a +ℚ f *ℚ b

-- the operations of formula 4
abbrev pub added_operations : ℚ → ℚ → ℚ → Bool → List Operation
added_operations a f b true = []
added_operations a f b false = unless_zero f b (record { op = Mul; left = f; right = b } ∷ record { op = Add; left = a; right = f *ℚ b }
    ∷ [])

-- the pivot's row after the pivot
abbrev pub divided_row : (ℕ → ℚ) → ℕ → ℕ → ℚ
divided_row a c k = divided (a k) (a c) (eqb k c)

-- another row a after the pivot, where b is the pivot's row after it
abbrev pub combined_row : (ℕ → ℚ) → (ℕ → ℚ) → ℕ → ℕ → ℚ
combined_row a b c k = combined (a k) (a c) (b k) (eqb k c)

-- a row a to which f times the row b is added outside the pivot's column
abbrev pub added_row : (ℕ → ℚ) → ℚ → (ℕ → ℚ) → ℕ → ℕ → ℚ
added_row a f b c k = added (a k) f (b k) (eqb k c)
