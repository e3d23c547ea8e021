use Rattle.std.proofs.Common.{List, sym, subst}
use Rattle.std.specs.Prelude.{ℕ}
use Rattle.solve_joint.specs.Searches.{StepsWithin, IsReached}
use Rattle.solve_joint.proofs.closure.Stepping.{steps_within}
use Rattle.solve_joint.proofs.closure.Leading.{rows_more}
use Rattle.solve_joint.proofs.closure.reaching.Goals as goal

pub reached-requires-clause-within : goal.reached-requires-clause-within
reached-requires-clause-within c =
    subst (λ (lists : List (List ℕ)). StepsWithin c.args.points lists) (sym c.as_slice.ensures.value)
    (steps_within c.args.points c.args.nodes.now c.in_ok-steps.steps.items c.requires c.in_ok-steps.ensures)

pub loop-point-preserved : goal.loop-point-preserved
loop-point-preserved c = rows_more c.args.points c.args.nodes.now c.in_ok-steps.steps.items c.requires c.in_ok-steps.ensures
    c.loop-point.point c.loop-point.rows.items _ _ c.loop-point.invariant
    (subst (λ (lists : List
    (List ℕ)). IsReached c.args.points lists c.loop-point.point c.in_ok-reached.field-0) c.as_slice.ensures.value c.in_ok-reached.ensures)
    c.in_ok-push.ensures.items
