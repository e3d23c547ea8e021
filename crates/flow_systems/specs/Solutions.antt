-- What a vector says of a program.
use Rattle.std.specs.Prelude.{ℕ, ℤ, List, Contains}
use Rattle.lang_tree.specs.Tree.{Statements}
use Rattle.lang_tree.specs.PointNumbers.{point_count}
use Rattle.lang_tree.specs.Runs.{Configuration, IsRun, IsAt}
use Rattle.flow_edges.specs.Edges.{edges_of_program}
use Rattle.flow_systems.specs.States.{rational}
use Rattle.flow_systems.specs.Equations.{Equations, Vector, Fits}

-- the system of a program over a number of variables, and a template
abbrev pub equations_of_program : ℕ → Statements → List (List ℤ) → Equations
equations_of_program variables body template = record {
  variables = variables;
  points = point_count body;
  edges =
      edges_of_program body;
  template = template;
}

-- a vector holds where in every run, at every configuration that is at a point, the state fits the vector at that point
abbrev pub Holds : Equations → Statements → Vector → Type 0
Holds system body v = (run : List Configuration) (c : Configuration) (p : ℕ) →
    IsRun system.variables body run → Contains run c → IsAt c p → Fits system v p (rational c.state)
