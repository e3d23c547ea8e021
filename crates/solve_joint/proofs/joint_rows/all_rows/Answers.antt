use Rattle.std.proofs.Common.{◌≡◌, ◌∙◌, ◌+◌, ◌%◌, ◌≤◌, ◌∷◌, [], ◌++◌, None, map, get_or, length, ap, sym, subst, arith}
use Rattle.std.proofs.lemmas.Result.{err_from_is_err_and}
use Rattle.base_fractions.specs.Fits.{long_limit}
use Rattle.base_fractions.specs.Operation.{first_wide}
use Rattle.solve_joint.specs.Rows.{AllStand, IsSideFault}
use Rattle.solve_joint.specs.Blocks.{side_of, block_of, split_width}
use Rattle.solve_joint.proofs.joint_rows.Picking.{picked_at, edge_within}
use Rattle.solve_joint.proofs.joint_rows.Blocked.{blocks_more, blocks_refused, blocks_fit}
use Rattle.solve_joint.proofs.joint_rows.all_rows.Goals as goal

pub picked_edge-edge-requires : goal.picked_edge-edge-requires
picked_edge-edge-requires c =
    let p = picked_at c.args.at.now.system.now c.args.pick.now c.args.list.now c.loop-unknown.unknown-index c.requires.picked
    c.loop-unknown-test.true in
    omega (arith, p.in_range, c.requires.pick)

pub push_block-requires-clause-edge : goal.push_block-requires-clause-edge
push_block-requires-clause-edge c =
    let u = get_or c.args.list.now c.loop-unknown.unknown-index 0 in
    let p = picked_at c.args.at.now.system.now c.args.pick.now c.args.list.now c.loop-unknown.unknown-index c.requires.picked
    c.loop-unknown-test.true in
    edge_within c.args.at.now.system.now c.args.pick.now u c.picked_edge-edge.result p c.picked_edge-edge.ensures

pub push_block-requires-clause-unknown : goal.push_block-requires-clause-unknown
push_block-requires-clause-unknown c =
    (picked_at c.args.at.now.system.now c.args.pick.now c.args.list.now c.loop-unknown.unknown-index c.requires.picked
    c.loop-unknown-test.true).in_range

pub push_block-requires-clause-fits : goal.push_block-requires-clause-fits
push_block-requires-clause-fits c =
    let i = c.loop-unknown.unknown-index in
    let rows = c.loop-unknown.rows.items in
    subst (λ e. length c.args.list.now + (c.loop-unknown.offset + split_width c.args.at.now.system.now e) ≤ c.args.cols)
    (sym c.picked_edge-edge.ensures)
    (blocks_fit c.args.at.now.system.now c.args.pick.now c.args.at.now.base.now c.args.list.now c.args.cols _ _ c.loop-unknown.offset i
    c.loop-unknown.invariant c.loop-unknown-test.true (sym c.requires.cols))

pub returns-in_err-push_block : goal.returns-in_err-push_block
returns-in_err-push_block c =
    let q = err_from_is_err_and c.from_residual.result c.from_residual.ensures.1 in
    let i = c.loop-unknown.unknown-index in
    let system = c.args.at.now.system.now in
    let u = get_or c.args.list.now i 0 in
    rw (q.1, q.2)
    (blocks_refused system c.args.pick.now c.args.at.now.base.now c.args.list.now c.args.cols _ _ c.loop-unknown.offset i
    c.loop-unknown.invariant
    c.loop-unknown-test.true c.in_err-push_block.field-0.0
    (subst (λ e. IsSideFault (side_of system c.args.at.now.base.now e (u % length system.template) u ∷ []) c.in_err-push_block.field-0.0)
    c.picked_edge-edge.ensures c.in_err-push_block.ensures.refused))

pub word_width-columns-requires-clause-edge : goal.word_width-columns-requires-clause-edge
word_width-columns-requires-clause-edge c =
    let u = get_or c.args.list.now c.loop-unknown.unknown-index 0 in
    let p = picked_at c.args.at.now.system.now c.args.pick.now c.args.list.now c.loop-unknown.unknown-index c.requires.picked
    c.loop-unknown-test.true in
    edge_within c.args.at.now.system.now c.args.pick.now u c.picked_edge-edge.result p c.picked_edge-edge.ensures

pub loop-unknown-preserved : goal.loop-unknown-preserved
loop-unknown-preserved c =
    let i = c.loop-unknown.unknown-index in
    let system = c.args.at.now.system.now in
    let base = c.args.at.now.base.now in
    let list = c.args.list.now in
    let u = get_or list i 0 in
    let edge = c.picked_edge-edge.ensures in
    let next = ap (λ w. c.loop-unknown.offset + (w + w)) c.word_width-columns.ensures.width
    ∙ ap (λ e. c.loop-unknown.offset + split_width system e) edge in
    blocks_more system c.args.pick.now base list c.args.cols _ _ c.loop-unknown.offset i c.loop-unknown.invariant c.loop-unknown-test.true _
    _ _ next
    (subst (λ e. first_wide long_limit (side_of system base e (u % length system.template) u ∷ []) ≡ None) edge
    c.in_ok-push_block.ensures.side)
    (λ ls s. subst
    (λ e. AllStand c.args.cols (map (λ r. r.coeffs) c.push_block.new.rows.items) (map (λ r. r.side) c.push_block.new.rows.items)
    (ls ++ block_of system base list c.loop-unknown.offset e u))
    edge (c.in_ok-push_block.ensures.stands ls s))
