use Rattle.std.proofs.Common.{◌∙◌, [], ◌++◌, refl, ap, ap₂, arith}
use Rattle.std.specs.Prelude.{flat_map}
use Rattle.lang_tree.specs.View.{condition_of, deeds_of}
use Rattle.flow_edges.specs.Edges.{arrived, test_ways}
use Rattle.flow_edges.specs.Trails.{reached, walked}
use Rattle.flow_edges.proofs.edge_walk.Loops.{loop_step}
use Rattle.flow_edges.proofs.trail.TrailLemmas.{chosen, walked_along}
use Rattle.flow_edges.proofs.loop_walk.repeated.Goals as goal

pub loop-trail-preserved : goal.loop-trail-preserved
loop-trail-preserved c =
    let cond = condition_of c.args.cond.now in
    let after = walked c.args.after.now in
    let ways = test_ways cond c.args.head after in
    loop_step (flat_map (λ b. reached b ways)) (λ b. reached b ways) (λ x xs. refl) _ _ _ c.as_slice-trail-items.result.now
    c.loop-trail.trail-index c.trail-item.result
    c.loop-trail-test.true c.trail-item.is
    (chosen c.loop-trail.edges.items c.go_on_by_case.new.edges.items _ c.trail-item.result c.trail-item.result cond c.in_ok-held.held
    c.in_ok-failed.failed (arrived c.args.head) after _ _ refl c.in_ok-held.ensures c.in_ok-failed.ensures
    (ap walked c.as_slice.ensures ∙ c.in_ok-again.ensures) refl c.in_ok-go_on_by_case.ensures c.in_ok-go_on_by_case-2.ensures)
    c.loop-trail.invariant

pub returns : goal.returns
returns c =
    let ways = test_ways (condition_of c.args.cond.now) c.args.head (walked c.args.after.now) in
    c.new.ensures
    ∙ walked_along c.args.head (deeds_of c.args.prelude.now) ways [] c.loop-trail.edges.items c.in_ok-trails.trails.items
    c.as_slice-trail-items.result.now c.loop-trail.trail-index (omega (arith, c.loop-trail-test.false)) c.in_ok-trails.ensures
    (c.loop-trail.invariant
    ∙ ap₂ (λ es bs. es ++ flat_map (λ b. reached b ways) bs) c.new-edges.ensures.items c.as_slice-trail-items.ensures.value)
