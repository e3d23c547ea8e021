-- What linear programming decides of post-solutions.
use Rattle.flow_systems.specs.Equations.{Equations, Vector, PostSolution, IsBelow, Least}
use Rattle.theory_validity.specs.Certificates.{PointsInRange}

-- a post-solution that is at most every post-solution solves the system, and so is the least solution
abbrev pub PostSolutionsBelowAllAreLeast : Type 0
PostSolutionsBelowAllAreLeast = (system : Equations) → PointsInRange system → (v : Vector) → PostSolution system v →
    ((w : Vector) → PostSolution system w → IsBelow system v w) → Least system v
