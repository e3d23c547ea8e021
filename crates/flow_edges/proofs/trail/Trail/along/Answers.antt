use Rattle.std.proofs.Common.{sym}
use Rattle.flow_edges.proofs.trail.TrailLemmas.{followed_by_nothing, followed_further}
use Rattle.flow_edges.proofs.trail.Trail.along.Goals as goal

pub loop-action-init : goal.loop-action-init
loop-action-init c = sym (followed_by_nothing c.in_ok-trail.trail (rw (← c.in_ok-trail.ensures.same) at c.in_ok-trail.ensures.short))

pub loop-action-preserved : goal.loop-action-preserved
loop-action-preserved c =
    followed_further _ _ _ c.as_slice-action-items.result.now c.loop-action.action-index c.action-item.result _ c.loop-action-test.true
    c.action-item.is
    c.in_ok-copy.ensures c.in_ok-add.ensures c.loop-action.invariant
