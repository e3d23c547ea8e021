use Rattle.std.proofs.Common.{◌∙◌, ◌+◌, get_or, length, ap, arith}
use Rattle.theory_validity.specs.Words.{width}
use Rattle.solve_joint.specs.Blocks.{edge_at}
use Rattle.solve_joint.proofs.joint_rows.Picking.{picked_at, edge_within}
use Rattle.solve_joint.proofs.joint_problem.EdgeSizes.{names_within}
use Rattle.solve_joint.proofs.layout.LaidOut.{laid_more, rise_is}
use Rattle.solve_joint.proofs.layout.layout.Goals as goal

pub picked_edge-requires : goal.picked_edge-requires
picked_edge-requires c =
    let p = picked_at c.args.system.now c.args.pick.now c.args.list.now c.loop-place.place c.requires.picked c.loop-place-test.true in
    omega (arith, p.in_range, c.requires.pick)

pub word_width-width-requires-clause-edge : goal.word_width-width-requires-clause-edge
word_width-width-requires-clause-edge c =
    let u = get_or c.args.list.now c.loop-place.place 0 in
    let p = picked_at c.args.system.now c.args.pick.now c.args.list.now c.loop-place.place c.requires.picked c.loop-place-test.true in
    edge_within c.args.system.now c.args.pick.now u c.picked_edge.result p c.picked_edge.ensures

pub overflow_sub-width : goal.overflow_sub-width
overflow_sub-width c = omega (
  arith,
  names_within c.args.system.now c.picked_edge.result,
  c.word_width-width.ensures.width,
  ap (λ xs. length xs) c.as_slice-names.ensures,
)

pub loop-place-preserved : goal.loop-place-preserved
loop-place-preserved c =
    let system = c.args.system.now in
    let pick = c.args.pick.now in
    let list = c.args.list.now in
    let i = c.loop-place.place in
    let u = get_or list i 0 in
    let names = ap (λ xs. length xs) c.as_slice-names.ensures in
    let edge = c.picked_edge.ensures in
    let wide = c.word_width-width.ensures.width ∙ ap (λ e. width (length system.flow.names) (edge_at system e).actions) edge in
    let next = ap (λ w. c.loop-place.offset + (w + w)) wide in
    rw c.in_ok-push.ensures.items
    (laid_more system pick list c.loop-place.rises.items c.loop-place.offset i _ _ c.loop-place.invariant c.loop-place-test.true
    (rise_is system pick (length list) i c.loop-place.offset u c.as_slice-names.result.now c.word_width-width.result c.in_ok-starts.starts
    c.in_ok-frees.frees names wide c.in_ok-starts.ensures c.in_ok-frees.ensures) next)
