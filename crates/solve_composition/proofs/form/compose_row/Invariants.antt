use Rattle.std.proofs.Common.{◌≡◌, map}
use Rattle.std.specs.List.{range_with_len}
use Rattle.flow_systems.specs.States.{dotℚ}
use Rattle.flow_systems.specs.Sums.{row_operations}
use Rattle.solve_composition.specs.Sums.{dense_column}
use Rattle.solve_composition.proofs.faults.Passed.{IsPassed}
use Rattle.solve_composition.proofs.form.compose_row.Given as goal

abbrev pub invariant-loop-column : goal.invariant-loop-column
invariant-loop-column l = record {
  list : l.list.items ≡ map (λ k. dotℚ l.row (dense_column k l.state)) (range_with_len 0 l.column);
  passed : IsPassed (λ k. row_operations l.row (dense_column k l.state)) (range_with_len 0 l.width) l.column;
}
