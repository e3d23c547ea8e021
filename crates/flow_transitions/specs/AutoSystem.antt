-- The system of a transition system, and what it is for a vector to hold along its edges.
use Rattle.std.specs.Prelude.{ℤ, List, length, Contains}
use Rattle.flow_systems.specs.States.{rational}
use Rattle.flow_systems.specs.Equations.{Equations, Vector, Fits}
use Rattle.flow_transitions.specs.declared.auto.Auto.{Auto}
use Rattle.flow_transitions.specs.Choices.{edges_of}
use Rattle.flow_transitions.specs.AutoRuns.{AutoConfiguration, IsAutoRun}

-- the system of a transition system and a template
abbrev pub equations_of_auto : Auto → List (List ℤ) → Equations
equations_of_auto auto template = record {
  variables = length auto.names;
  points = length auto.points;
  edges = edges_of (length auto.points) auto.edges;
  template = template;
}

-- a vector holds along the edges where in every run, at every configuration, the state fits the vector at the point
abbrev pub HoldsAlong : Auto → Equations → Vector → Type 0
HoldsAlong auto system v = (run : List AutoConfiguration) (c : AutoConfiguration) →
    IsAutoRun (length auto.names) auto.edges run → Contains run c → Fits system v c.point (rational c.state)
