use Rattle.std.proofs.Common.{◌≡◌, ◌≤◌, ◌*◌, ◌-◌, length}
use Rattle.flow_systems.specs.View.{equations_of}
use Rattle.flow_systems.specs.Cells.{most_block_cells, unknown_cells}
use Rattle.flow_systems.proofs.system.CellSums.{sum_to}
use Rattle.flow_systems.proofs.system.System.cells.Given as goal

abbrev pub invariant-loop-point : goal.invariant-loop-point
invariant-loop-point l = record {
  cells : l.cells ≡ sum_to (equations_of l.self) (unknown_cells (equations_of l.self)) (l.point - 1);
  few : l.cells ≤ l.point * length l.self.template * most_block_cells;
}
