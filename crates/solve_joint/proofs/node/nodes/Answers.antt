use Rattle.solve_joint.proofs.joint_rows.Picking.{picked_at}
use Rattle.solve_joint.proofs.node.nodes.Goals as goal

pub source-requires-clause-picked : goal.source-requires-clause-picked
source-requires-clause-picked c = picked_at c.args.system.now c.args.pick.now c.args.list.now c.loop-unknown.unknown-index c.requires.picked
    c.loop-unknown-test.true
