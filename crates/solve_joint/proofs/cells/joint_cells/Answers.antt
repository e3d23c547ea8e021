use Rattle.std.proofs.Common.{arith}
use Rattle.solve_joint.proofs.joint_rows.Picking.{few_listed, listed_edge, listed_within}
use Rattle.solve_joint.proofs.cells.joint_cells.Goals as goal

pub picked_edge-requires : goal.picked_edge-requires
picked_edge-requires c =
    listed_within c.args.system.now c.args.pick.now c.args.list.now c.loop-unknown.unknown-index c.requires.pick c.requires.picked
    c.loop-unknown-test.true

pub edge_cells-cells-requires-clause-edge : goal.edge_cells-cells-requires-clause-edge
edge_cells-cells-requires-clause-edge c =
    listed_edge c.args.system.now c.args.pick.now c.args.list.now c.loop-unknown.unknown-index c.picked_edge.result c.requires.picked
    c.loop-unknown-test.true c.picked_edge.ensures

pub overflow_add-cells : goal.overflow_add-cells
overflow_add-cells c =
    let few = few_listed c.args.system.now c.args.pick.now c.args.list.now c.requires.rises c.requires.picked in
    omega (arith, few, c.loop-unknown.invariant.few, c.loop-unknown-test.true, c.edge_cells-cells.ensures.few)
