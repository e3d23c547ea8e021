use Rattle.std.proofs.Common.{arith}
use Rattle.solve_joint.proofs.joint_rows.Picking.{few_listed, listed_edge, listed_within}
use Rattle.solve_joint.proofs.joint_rows.count_columns.Goals as goal

pub picked_edge-requires : goal.picked_edge-requires
picked_edge-requires c =
    listed_within c.args.system.now c.args.pick.now c.args.list.now c.loop-unknown.unknown-index c.requires.pick c.requires.picked
    c.loop-unknown-test.true

pub word_width-columns-requires-clause-edge : goal.word_width-columns-requires-clause-edge
word_width-columns-requires-clause-edge c =
    listed_edge c.args.system.now c.args.pick.now c.args.list.now c.loop-unknown.unknown-index c.picked_edge.result c.requires.picked
    c.loop-unknown-test.true c.picked_edge.ensures

pub overflow_add-cols-in-loop-unknown : goal.overflow_add-cols-in-loop-unknown
overflow_add-cols-in-loop-unknown c =
    let few = few_listed c.args.system.now c.args.pick.now c.args.list.now c.requires.rises c.requires.picked in
    omega (arith, few, c.loop-unknown.invariant.few, c.loop-unknown-test.true, c.word_width-columns.ensures.few)

pub returns-clause-few : goal.returns-clause-few
returns-clause-few c =
    let few = few_listed c.args.system.now c.args.pick.now c.args.list.now c.requires.rises c.requires.picked in
    omega (arith, few, c.loop-unknown.invariant.few, c.loop-unknown.auto.unknown-index-end)
