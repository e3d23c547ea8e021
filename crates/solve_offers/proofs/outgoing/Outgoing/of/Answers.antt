use Rattle.std.proofs.Common.{◌≡◌, ◌∙◌, ◌<◌, [], length, ap, subst, arith}
use Rattle.std.specs.Prelude.{replicate, slice_set}
use Rattle.flow_edges.specs.declared.edge.Edge.{Edge}
use Rattle.solve_offers.specs.AtBounds.{edge_at}
use Rattle.solve_offers.proofs.at_bounds.Ranges.{edge_here, source_in_range}
use Rattle.solve_offers.proofs.outgoing.OutLists.{leaving_none, leaving_more, leaving_all}
use Rattle.solve_offers.proofs.outgoing.Outgoing.of.Goals as goal

pub loop-number-init : goal.loop-number-init
loop-number-init c = leaving_none c.args.system.now c.in_ok-lists.lists.items
    (c.in_ok-lists.ensures ∙ ap (λ ps. replicate (length ps) []) c.as_slice.ensures)

pub loop-number-preserved : goal.loop-number-preserved
loop-number-preserved c =
    let system = c.args.system.now in
    let number = c.loop-number.number in
    let edge = c.edge-item.result in
    let test = c.loop-number-test.true in
    let all = ap (λ es. length es) c.as_slice-edge-items.ensures in
    let l : number < length system.flow.edges = omega (arith, test, all) in
    let here : edge_at system number ≡ edge = edge_here system c.as_slice-edge-items.result.now number edge c.as_slice-edge-items.ensures
    test c.edge-item.is in
    let start : edge.from < length system.flow.points =
    subst (λ (e : Edge). e.from < length system.flow.points) here (source_in_range system number l) in
    leaving_more system c.loop-number.lists.items _ number edge c.index_mut.result.now c.loop-number.invariant l here start
    c.index_mut.ensures.value (ap (λ ns. slice_set c.loop-number.lists.items edge.from ns) c.in_ok-add.ensures)

pub returns : goal.returns
returns c =
    let all = ap (λ es. length es) c.as_slice-edge-items.ensures in
    let last = c.loop-number-test.false in
    leaving_all c.args.system.now c.loop-number.lists.items c.loop-number.number (omega (arith, all, last)) c.loop-number.invariant
