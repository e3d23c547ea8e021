-- The step that raises one unknown towards the transformer of its picked edge, and the operations by which it is made.
use Rattle.std.specs.Prelude.{ℕ, ◌/◌, ◌%◌, List, [], ◌∷◌, ◌++◌}
use Rattle.base_numbers.specs.Rational.{zero_ℚ, ◌<ℚ◌}
use Rattle.base_numbers.specs.Extended.{Ext}
use Rattle.base_fractions.specs.Operation.{Operation}
use Rattle.flow_systems.specs.Equations.{Equations}
use Rattle.theory_validity.specs.Steps.{Item, Step, Plain, Ray, Sized, edge_of, row_of}
use Rattle.cert_types.specs.Certificates.{pieces_of, no_pieces}
use Rattle.theory_strategy.specs.Picks.{choice}
use Rattle.theory_strategy.specs.Growth.{with_words, raised_to}
use Rattle.solve_composition.specs.declared.value.Value.{Value}
use Rattle.solve_composition.specs.declared.value.Value.TheVariants.{Unreached, Empty, Best, Unbounded}
use Rattle.flow_systems.specs.declared.sums.Constants.TheVariants.{Zero}
use Rattle.solve_raise.specs.Moves.{carried, carried_operations}
use Rattle.solve_raise.specs.Numbers.{fitting, number_operations}
use Rattle.solve_raise.specs.Lows.{low_of, low_operations}

-- the choice of an edge for the unknown of a number, where there are so many rows
abbrev pub choice_of : ℕ → ℕ → ℕ → Item
choice_of rows unknown edge = choice (unknown / rows) (unknown % rows) edge

-- the step for a value that exceeds a bound: to a number below a best value by a trace that reaches it, or to +∞ by a trace, a
-- direction and its rate; the other values exceed nothing
unfoldable pub raised : Equations → Item → Ext → Value → Step
raised system u bound (Unreached r) = record { kind = Plain; items = [] }
raised system u bound (Empty rows guards) = record { kind = Plain; items = [] }
raised system u bound (Best value trace rows guards) =
    record { kind = Plain; items = with_words u (pieces_of trace) no_pieces (raised_to fitting bound value) ∷ [] }
raised system u bound (Unbounded trace direction) =
    record {
      kind = Ray;
      items = with_words u (low_of system (edge_of system u) (row_of system u) bound trace direction) (pieces_of direction)
          (carried Zero system (edge_of system u) (row_of system u) direction) ∷ [];
    }

-- the operations of that step, in order: for a best value those of the number, and else the rate and then those of the trace
unfoldable pub raise_operations : Equations → Item → Ext → Value → List Operation
raise_operations system u bound (Unreached r) = []
raise_operations system u bound (Empty rows guards) = []
raise_operations system u bound (Best value trace rows guards) = number_operations bound value
raise_operations system u bound (Unbounded trace direction) =
    carried_operations Zero (edge_of system u) (row_of system u) direction
    ++ low_operations system (edge_of system u) (row_of system u) bound trace direction

-- ---- what is asked of the value
-- its traces have a start value for each variable and a value for each free assignment of the edge
abbrev pub HasSizes : Equations → Item → Value → Type 0
HasSizes system u (Unreached r) = Unit {0}
HasSizes system u (Empty rows guards) = Unit {0}
HasSizes system u (Best value trace rows guards) = Sized system u (pieces_of trace)
HasSizes system u (Unbounded trace direction) = Sized system u (pieces_of trace) × Sized system u (pieces_of direction)

-- along its direction the row rises
abbrev pub Rises : Equations → Item → Value → Type 0
Rises system u (Unreached r) = Unit {0}
Rises system u (Empty rows guards) = Unit {0}
Rises system u (Best value trace rows guards) = Unit {0}
Rises system u (Unbounded trace direction) = zero_ℚ <ℚ carried Zero system (edge_of system u) (row_of system u) direction
