-- The trace that shows an unknown above its bound where the row rises along a direction for ever.
use Rattle.std.specs.Prelude.{ℤ, List, [], ◌++◌, if◌then◌else◌}
use Rattle.base_numbers.specs.Rational.{ℚ, lt_ℚ}
use Rattle.base_numbers.specs.Extended.{Ext, neg_inf, fin, pos_inf}
use Rattle.flow_edges.specs.declared.edge.Edge.{Edge}
use Rattle.base_fractions.specs.Operation.{Operation}
use Rattle.flow_systems.specs.Equations.{Equations}
use Rattle.flow_systems.specs.declared.trace.Trace.{Trace}
use Rattle.theory_validity.specs.Steps.{Pieces}
use Rattle.cert_types.specs.Certificates.{pieces_of}
use Rattle.flow_systems.specs.declared.sums.Constants.TheVariants.{Kept, Zero}
use Rattle.solve_raise.specs.Moves.{carried, carried_operations}
use Rattle.solve_raise.specs.Numbers.{multiple, multiple_operations, moved_pieces, moved_operations}

module _ (system : Equations) (edge : Edge) (row : List ℤ) where
  -- the multiple of a direction by which a trace comes above a bound
  abbrev pub multiple_along : ℚ → Trace → Trace → ℚ
  multiple_along b trace direction = multiple b (carried Kept system edge row trace) (carried Zero system edge row direction)

  -- the given trace where its value exceeds the bound, and else that trace moved along the direction by the multiple
  unfoldable pub low_of : Ext → Trace → Trace → Pieces
  low_of neg_inf trace direction = pieces_of trace
  low_of (fin b) trace direction =
      if lt_ℚ b (carried Kept system edge row trace) then pieces_of trace else moved_pieces (multiple_along b trace direction) trace
      direction
  low_of pos_inf trace direction = pieces_of trace

  -- the operations of moving a trace whose value isn't above the bound
  abbrev pub move_operations : ℚ → Trace → Trace → List Operation
  move_operations b trace direction =
      multiple_operations b (carried Kept system edge row trace) (carried Zero system edge row direction)
      ++ moved_operations (multiple_along b trace direction) trace direction

  -- those of the trace, in order: its value where the bound is a fraction, and where that isn't above the bound the move
  unfoldable pub low_operations : Ext → Trace → Trace → List Operation
  low_operations neg_inf trace direction = []
  low_operations (fin b) trace direction =
      carried_operations Kept edge row trace ++ (if lt_ℚ b (carried Kept system edge row trace) then [] else move_operations b trace
      direction)
  low_operations pos_inf trace direction = []
