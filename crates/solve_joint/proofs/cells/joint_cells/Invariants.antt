use Rattle.std.proofs.Common.{◌≡◌, ◌*◌, ◌≤◌, take}
use Rattle.flow_systems.specs.Cells.{most_block_cells}
use Rattle.solve_joint.specs.Sizes.{cells_in}
use Rattle.solve_joint.proofs.cells.joint_cells.Given as goal

abbrev pub invariant-loop-unknown : goal.invariant-loop-unknown
invariant-loop-unknown l = record {
  cells : l.cells ≡ cells_in l.system l.pick (take l.unknown-index l.list);
  few : l.cells ≤ most_block_cells * l.unknown-index;
}
