use Rattle.std.proofs.Common.{◌≡◌, map}
use Rattle.std.specs.List.{range_with_len}
use Rattle.theory_validity.specs.Words.{column}
use Rattle.solve_composition.specs.Composed.{dense}
use Rattle.solve_composition.proofs.walk.start_state.Given as goal

abbrev pub invariant-loop-variable : goal.invariant-loop-variable
invariant-loop-variable l = l.state.items ≡ map (λ k. dense l.width (column k)) (range_with_len 0 l.variable)
