use Rattle.std.proofs.Common.{◌≤◌, ◌++◌, length, drop, map, ap, sym, ◌∙◌, append-nil, arith}
use Rattle.flow_systems.specs.View.{vector_at}
use Rattle.acsl_notes.specs.Texts.{comments_from}
use Rattle.acsl_notes.specs.View.{anchor_of}
use Rattle.acsl_notes.proofs.said.Points.{none_behind, plain_comments}
use Rattle.acsl_notes.proofs.list.comments.Goals as goal

pub returns : goal.returns
returns c list e =
    let text = c.args.text.now in
    let system = c.args.system.now in
    let vector = vector_at system c.args.bounds.now in
    let points = system.flow.points in
    let found = c.loop-point.found.items in
    let point = c.loop-point.point in
    let behind : length points ≤ point = omega (arith, ap length c.as_slice-point-end.ensures) in
    sym (ap (λ more. found ++ more) (none_behind text system.flow.names system.template vector point point points
    (map anchor_of (drop c.loop-point.used c.args.anchors.now)) behind)
    ∙ append-nil found)
    ∙ c.loop-point.invariant.comments
    ∙ ap (λ anchors. comments_from text system.flow.names system.template vector 0 points (map anchor_of anchors)) e
    ∙ plain_comments text system.flow.names system.template vector 0 points list
