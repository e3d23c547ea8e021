use Rattle.std.proofs.Common.{sym}
use Rattle.flow_edges.proofs.trail.TrailLemmas.{followed_by_nothing, followed_more}
use Rattle.flow_edges.proofs.trail.Trail.after.Goals as goal

pub loop-form-init : goal.loop-form-init
loop-form-init c = sym (followed_by_nothing c.in_ok-trail.trail (rw (← c.in_ok-trail.ensures.same) at c.in_ok-trail.ensures.short))

pub loop-form-preserved : goal.loop-form-preserved
loop-form-preserved c =
    followed_more _ _ _ c.as_slice-form-items.result.now c.loop-form.form-index c.form-item.result _ c.loop-form-test.true c.form-item.is
    c.in_ok-again.ensures c.in_ok-add.ensures c.loop-form.invariant
