use Rattle.std.proofs.Common.{◌≡◌, ◌+◌, ◌*◌, ◌≤◌, length, drop}
use Rattle.solve_joint.specs.Blocks.{split_columns}
use Rattle.solve_joint.proofs.joint_rows.count_columns.Given as goal
use Rattle.lang_tree.specs.declared.limits.TheConstants.{MOST_VARIABLES}
use Rattle.flow_edges.specs.declared.limits.TheConstants.{MOST_ACTIONS}

abbrev pub invariant-loop-unknown : goal.invariant-loop-unknown
invariant-loop-unknown l = record {
  count : l.cols + split_columns l.system l.pick (drop l.unknown-index l.list) ≡ length l.list + split_columns l.system l.pick l.list;
  few : l.cols ≤ length l.list + 2 * (MOST_VARIABLES + MOST_ACTIONS) * l.unknown-index;
}
