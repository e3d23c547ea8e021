-- Values that are carried along an edge: the assignments alone, each with its constant or with 0 in its place.
use Rattle.std.specs.Prelude.{ℤ, List, [], ◌∷◌}
use Rattle.base_numbers.specs.Rational.{ℚ}
use Rattle.flow_edges.specs.declared.edge.Action.{Action}
use Rattle.flow_edges.specs.declared.edge.Action.TheVariants.{Guard, Assign, Havoc, Check}
use Rattle.flow_edges.specs.declared.edge.Edge.{Edge}
use Rattle.base_fractions.specs.Operation.{Operation}
use Rattle.flow_systems.specs.Equations.{Equations}
use Rattle.flow_systems.specs.declared.trace.Trace.{Trace}
use Rattle.flow_systems.specs.TraceTests.{trace_operations}
use Rattle.theory_validity.specs.Words.{lin, end_form}
use Rattle.theory_validity.specs.Steps.{end_value}
use Rattle.flow_systems.specs.Constants.{form_with}
use Rattle.solve_composition.specs.Value.{word_of}
use Rattle.flow_systems.specs.declared.sums.Constants.{Constants}
use Rattle.flow_systems.specs.declared.sums.Constants.TheVariants.{Kept, Zero}

-- the actions that give a variable a value, without guards and checks
abbrev pub moves : Constants → List Action → List Action
moves constants [] = []
moves constants (Guard form ∷ actions) = moves constants actions
moves constants (Assign var form ∷ actions) = Assign var (form_with constants form) ∷ moves constants actions
moves constants (Havoc var ∷ actions) = Havoc var ∷ moves constants actions
moves constants (Check about ∷ actions) = moves constants actions

-- the trace of these start values and free values
abbrev pub trace_of : List ℚ → List ℚ → Trace
trace_of start free = record { start = start; free = free }

-- the row's value where a trace ends: its value along the edge, or without constants the rate at which it rises along a direction
abbrev pub carried : Constants → Equations → Edge → List ℤ → Trace → ℚ
carried Kept system edge row trace = end_value system edge row (word_of trace)
carried Zero system edge row trace = lin (end_form system.variables edge.actions row) (word_of trace)

-- the sums by which it is formed: those of the assignments in order, and then the row's
abbrev pub carried_operations : Constants → Edge → List ℤ → Trace → List Operation
carried_operations constants edge row trace = trace_operations (moves constants edge.actions) trace.start trace.free row
