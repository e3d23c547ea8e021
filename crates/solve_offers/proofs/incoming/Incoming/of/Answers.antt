use Rattle.std.proofs.Common.{◌∙◌, ◌<◌, [], length, ap, subst, arith}
use Rattle.std.specs.Prelude.{replicate, slice_set}
use Rattle.flow_edges.specs.declared.edge.Edge.{Edge}
use Rattle.solve_offers.specs.Incoming.{numbers_by_point}
use Rattle.solve_offers.proofs.at_bounds.Ranges.{edge_here, end_in_range}
use Rattle.solve_offers.proofs.incoming.PointLists.{listed_none, listed_more, listed_all}
use Rattle.solve_offers.proofs.incoming.Incoming.of.Goals as goal

pub loop-number-init : goal.loop-number-init
loop-number-init c = listed_none (length c.args.system.now.flow.points) c.as_slice-edge-items.result.now c.in_ok-lists.lists.items
    (c.in_ok-lists.ensures ∙ ap (λ ps. replicate (length ps) []) c.as_slice.ensures)

pub loop-number-preserved : goal.loop-number-preserved
loop-number-preserved c =
    let system = c.args.system.now in
    let number = c.loop-number.number in
    let edges = c.as_slice-edge-items.result.now in
    let edge = c.edge-item.result in
    let test = c.loop-number-test.true in
    let all = ap (λ es. length es) c.as_slice-edge-items.ensures in
    let within : edge.to < length system.flow.points =
    subst (λ (e : Edge). e.to < length system.flow.points)
    (edge_here system edges number edge c.as_slice-edge-items.ensures test c.edge-item.is)
    (end_in_range system number (omega (arith, test, all))) in
    listed_more (length system.flow.points) edges c.loop-number.lists.items _ number edge c.index_mut.result.now
    c.loop-number.invariant test c.edge-item.is within c.index_mut.ensures.value
    (ap (λ ns. slice_set c.loop-number.lists.items edge.to ns) c.in_ok-add.ensures)

pub returns : goal.returns
returns c =
    listed_all (length c.args.system.now.flow.points) c.as_slice-edge-items.result.now c.loop-number.lists.items c.loop-number.number
    c.loop-number-test.false c.loop-number.invariant
    ∙ ap (numbers_by_point (length c.args.system.now.flow.points)) c.as_slice-edge-items.ensures
