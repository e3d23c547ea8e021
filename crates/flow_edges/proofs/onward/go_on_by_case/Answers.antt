use Rattle.std.proofs.Common.{refl}
use Rattle.flow_edges.specs.Steps.{guards}
use Rattle.flow_edges.specs.Trails.{followed, reached, split, walked}
use Rattle.flow_edges.proofs.edge_walk.Loops.{loop_step}
use Rattle.flow_edges.proofs.onward.go_on_by_case.Goals as goal

pub loop-case-preserved : goal.loop-case-preserved
loop-case-preserved c =
    let b = c.args.trail.now in
    let ways = walked c.args.next.now in
    let e = c.in_ok-go_on.ensures in
    loop_step (λ cases. split b cases ways) (λ forms. reached (followed b (guards forms)) ways) (λ x xs. refl) _ _ _
    c.as_slice-case-items.result.now c.loop-case.case-index c.case-item.result
    c.loop-case-test.true c.case-item.is (rw c.in_ok-longer.ensures at e) c.loop-case.invariant
