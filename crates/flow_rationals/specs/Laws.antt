-- What the system of equations has to do with the values above them, and what is so of the least of these values whatever their system.
use Rattle.std.specs.Prelude.{◌≡◌, ◌↔◌, ℕ, ◌<◌, List, length, IsTrue}
use Rattle.base_numbers.specs.Extended.{pos_inf}
use Rattle.flow_systems.specs.Equations.{Vector, PostSolution, Least}
use Rattle.flow_rationals.specs.declared.equation.Equation.{Equation}
use Rattle.flow_rationals.specs.Equations.{are_equations}
use Rattle.flow_rationals.specs.Values.{Values}
use Rattle.flow_rationals.specs.Solutions.{IsAbove, IsLeastAbove, EqualsRightSides}
use Rattle.flow_rationals.specs.System.{system_of}

-- a vector that is +inf at the entry is a post-solution exactly where its values at the loop are above the equations
abbrev pub PostSolutionsAreAbove : Type 0
PostSolutionsAreAbove = (equations : List Equation) (v : Vector) → IsTrue (are_equations equations) →
    ((r : ℕ) → r < length equations → v 0 r ≡ pos_inf) → PostSolution (system_of equations) v ↔ IsAbove equations (v 1)

-- the values at the loop of the least vector are the least above the equations
abbrev pub LeastVectorsAreLeastAbove : Type 0
LeastVectorsAreLeastAbove = (equations : List Equation) (v : Vector) → IsTrue (are_equations equations) →
    Least (system_of equations) v → IsLeastAbove equations (v 1)

-- the least values above the equations equal their right sides
abbrev pub LeastAboveEqualRightSides : Type 0
LeastAboveEqualRightSides = (equations : List Equation) (values : Values) → IsTrue (are_equations equations) →
    IsLeastAbove equations values → EqualsRightSides equations values

-- there is at most one least value for each name
abbrev pub AtMostOneLeastAbove : Type 0
AtMostOneLeastAbove = (equations : List Equation) (values others : Values) → IsLeastAbove equations values → IsLeastAbove equations others →
    (k : ℕ) → k < length equations → values k ≡ others k
