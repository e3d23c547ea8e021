-- The rates and directions that a ray gives to the unknowns of a layout, and the operations by which they are read.
use Rattle.std.specs.Prelude.{ℕ, ◌+◌, Bool, List, ◌++◌, get_or, map, flat_map}
use Rattle.std.specs.List.{filter}
use Rattle.base_numbers.specs.Rational.{ℚ, zero_ℚ, ◌-ℚ◌, lt_ℚ}
use Rattle.base_fractions.specs.declared.wide.Op.TheVariants.{Sub}
use Rattle.base_fractions.specs.Operation.{Operation}
use Rattle.solve_ray.specs.declared.layout.Rise.{Rise}
use Rattle.solve_ray.specs.declared.rate.RateOf.{RateOf}

-- the ray's entry at a column
abbrev pub at_column : List ℚ → ℕ → ℚ
at_column ray col = get_or ray col zero_ℚ

-- the value of a split column: its positive part minus its negative part, which stands in the next column
abbrev pub difference : List ℚ → ℕ → ℚ
difference ray col = at_column ray col -ℚ at_column ray (col + 1)

abbrev pub differences : List ℚ → List ℕ → List ℚ
differences ray cols = map (difference ray) cols

-- whether an unknown's rate is above 0
abbrev pub is_named : List ℚ → Rise → Bool
is_named ray rise = lt_ℚ zero_ℚ (at_column ray rise.col)

-- an unknown's rate and direction
abbrev pub rate_of : List ℚ → Rise → RateOf
rate_of ray rise = record {
  unknown = rise.unknown;
  rate = at_column ray rise.col;
  direction = record { start = differences ray rise.starts; free = differences ray rise.frees };
}

-- those of the unknowns whose rate is above 0, in order
abbrev pub named_rates : List ℚ → List Rise → List RateOf
named_rates ray rises = map (rate_of ray) (filter (is_named ray) rises)

-- ---- the operations
abbrev pub subtraction : List ℚ → ℕ → Operation
subtraction ray col = record { op = Sub; left = at_column ray col; right = at_column ray (col + 1) }

abbrev pub subtractions : List ℚ → List ℕ → List Operation
subtractions ray cols = map (subtraction ray) cols

-- the entries of an unknown's direction: the start values before the free values
abbrev pub direction_operations : List ℚ → Rise → List Operation
direction_operations ray rise = subtractions ray rise.starts ++ subtractions ray rise.frees

-- the directions of the unknowns whose rate is above 0, in order; the others are not read
abbrev pub named_operations : List ℚ → List Rise → List Operation
named_operations ray rises = flat_map (direction_operations ray) (filter (is_named ray) rises)
