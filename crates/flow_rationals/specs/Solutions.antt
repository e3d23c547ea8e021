-- Values that are above the equations, and the least of them.
use Rattle.std.specs.Prelude.{◌≡◌, ℕ, ◌<◌, List, length, slice_get, Some}
use Rattle.base_numbers.specs.Extended.{◌≤ᴱ◌}
use Rattle.flow_rationals.specs.declared.equation.Equation.{Equation}
use Rattle.flow_rationals.specs.Values.{Values, right_side}

-- every name has at least its right side
abbrev pub IsAbove : List Equation → Values → Type 0
IsAbove equations values = (k : ℕ) (e : Equation) → slice_get equations k ≡ Some e → right_side e values ≤ᴱ values k

-- above the equations, and at most all values that are
pub record IsLeastAbove (equations : List Equation) (values : Values) : Type 0 where
  pub above : IsAbove equations values
  pub least : (others : Values) → IsAbove equations others → (k : ℕ) → k < length equations → values k ≤ᴱ others k

-- every name has its right side
abbrev pub EqualsRightSides : List Equation → Values → Type 0
EqualsRightSides equations values = (k : ℕ) (e : Equation) → slice_get equations k ≡ Some e → values k ≡ right_side e values
