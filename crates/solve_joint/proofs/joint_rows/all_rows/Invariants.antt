use Rattle.std.proofs.Common.{map}
use Rattle.solve_joint.proofs.joint_rows.Blocked.{AreBlocks}
use Rattle.solve_joint.proofs.joint_rows.all_rows.Given as goal

abbrev pub invariant-loop-unknown : goal.invariant-loop-unknown
invariant-loop-unknown l = AreBlocks l.at.system.now l.pick l.at.base.now l.list l.cols (map (λ r. r.coeffs) l.rows.items)
    (map (λ r. r.side) l.rows.items) l.offset l.unknown-index
