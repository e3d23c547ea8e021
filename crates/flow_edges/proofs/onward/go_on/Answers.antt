use Rattle.std.proofs.Common.{refl, ◌∷◌, []}
use Rattle.flow_edges.specs.Trails.{reached, walked}
use Rattle.flow_edges.proofs.edge_walk.Loops.{loop_step}
use Rattle.flow_edges.proofs.onward.OnwardSteps.{went_on}
use Rattle.flow_edges.proofs.onward.go_on.Goals as goal

pub loop-edge-preserved : goal.loop-edge-preserved
loop-edge-preserved c =
    let b = c.args.trail.now in
    loop_step (λ es. reached b (walked es)) (λ e. reached b (walked (e ∷ []))) (λ x xs. refl) _ _ _ c.args.next.now c.loop-edge.edge-index
    c.edge-item.result
    c.loop-edge-test.true c.edge-item.is
    (went_on _ _ b _ c.edge-item.result c.end.result c.in_ok-along.ensures c.end.ensures c.in_ok-push.ensures.items) c.loop-edge.invariant
