use Rattle.std.proofs.Common.{◌+◌, false, length}
use Rattle.flow_edges.proofs.build.EdgeLimits.{room_in}
use Rattle.flow_edges.proofs.faults.FlowLaws.{limits}
use Rattle.flow_edges.proofs.checked.checks.Goals as goal
use Rattle.lang_tree.specs.declared.limits.TheConstants.{MOST_HIDDEN}

pub add_checks-requires : goal.add_checks-requires
add_checks-requires c =
    let p = c.args.program.now in
    rw c.as_slice.ensures (room_in (length p.names + MOST_HIDDEN) false p.body (limits (length p.names) p.body p.within_limits).statements)
