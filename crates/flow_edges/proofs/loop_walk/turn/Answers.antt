use Rattle.std.proofs.Common.{◌∙◌, ◌+◌, ◌++◌, true, false, refl, ap, arith}
use Rattle.std.specs.Prelude.{flat_map}
use Rattle.lang_tree.specs.View.{condition_of, deeds_of, statements_of}
use Rattle.flow_edges.specs.Edges.{by_case, ways_in}
use Rattle.flow_edges.specs.Trails.{jumps_of, reached, walked}
use Rattle.flow_edges.proofs.edge_walk.Loops.{loop_step}
use Rattle.flow_edges.proofs.trail.TrailLemmas.{chosen, walked_along}
use Rattle.flow_edges.proofs.loop_walk.turn.Goals as goal

pub loop-trail-preserved : goal.loop-trail-preserved
loop-trail-preserved c =
    let jumps = jumps_of c.args.jumps.now in
    let cond = condition_of c.args.cond.now in
    let body = statements_of c.args.body.now in
    let inside = ways_in body (c.args.head + 1) jumps jumps.continued in
    let ways = by_case true cond inside ++ by_case false cond jumps.broken in
    loop_step (flat_map (λ b. reached b ways)) (λ b. reached b ways) (λ x xs. refl) _ _ _ c.as_slice-trail-items.result.now
    c.loop-trail.trail-index c.trail-item.result
    c.loop-trail-test.true c.trail-item.is
    (chosen c.loop-trail.edges.items c.walk_cases.new.edges.items _ c.trail-item.result c.trail-item.result cond c.in_ok-held.held
    c.in_ok-failed.failed inside jumps.broken _ _ refl c.in_ok-held.ensures c.in_ok-failed.ensures
    (ap (λ edges. ways_in body (c.args.head + 1) jumps (walked edges)) c.as_slice-end.ensures) (ap walked c.as_slice.ensures)
    c.in_ok-walk_cases.ensures c.in_ok-go_on_by_case.ensures)
    c.loop-trail.invariant

pub returns : goal.returns
returns c =
    let jumps = jumps_of c.args.jumps.now in
    let cond = condition_of c.args.cond.now in
    let inside = ways_in (statements_of c.args.body.now) (c.args.head + 1) jumps jumps.continued in
    let ways = by_case true cond inside ++ by_case false cond jumps.broken in
    walked_along c.args.head (deeds_of c.args.prelude.now) ways c.args.edges.now.items c.loop-trail.edges.items c.in_ok-trails.trails.items
    c.as_slice-trail-items.result.now c.loop-trail.trail-index (omega (arith, c.loop-trail-test.false)) c.in_ok-trails.ensures
    (c.loop-trail.invariant
    ∙ ap (λ bs. c.args.edges.now.items ++ flat_map (λ b. reached b ways) bs) c.as_slice-trail-items.ensures.value)
