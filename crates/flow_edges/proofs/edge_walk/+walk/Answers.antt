use Rattle.std.proofs.Common.{◌∙◌, refl, ap}
use Rattle.std.proofs.lemmas.Result.{on_ok_weaker}
use Rattle.lang_tree.specs.View.{condition_of, statement_of, statements_of}
use Rattle.flow_edges.specs.Edges.{ways_in}
use Rattle.flow_edges.specs.Steps.{guards}
use Rattle.flow_edges.specs.Trails.{followed, jumps_of, reached, split, walked}
use Rattle.flow_edges.proofs.edge_walk.Loops.{loop_step}
use Rattle.flow_edges.proofs.edge_walk.WalkSteps.{walked_set, walked_havoc, walked_check, walked_where, walked_split, walked_assume}
use Rattle.flow_edges.proofs.edge_walk.WalkSteps.{walked_branch, walked_break, branched}
use Rattle.flow_edges.proofs.edge_walk.+walk.Goals as goal

pub walk-returns-in-Set : goal.walk-returns-in-Set
walk-returns-in-Set t c =
    on_ok_weaker c.walk.result
    (walked_set _ _ c.args.trail (statements_of c.args.stmts.now) (statements_of c.in-Some.rest.now) (statement_of c.in-Some.stmt.now)
    c.args.first c.points_of.result
    (jumps_of c.args.jumps.now) (walked c.args.next.now)
    (ap statements_of c.in-Some.ensures.cases.0) c.points_of.ensures _ c.in-Set.form c.in_ok-again-in-Set.field-0 _ _
    (ap statement_of c.in-Set.is) c.in_ok-again-in-Set.ensures c.in_ok-add-in-Set.ensures)
    c.walk.ensures

pub walk-returns-in-Havoc : goal.walk-returns-in-Havoc
walk-returns-in-Havoc t c =
    on_ok_weaker c.walk-in-Havoc.result
    (walked_havoc _ _ c.args.trail (statements_of c.args.stmts.now) (statements_of c.in-Some.rest.now) (statement_of c.in-Some.stmt.now)
    c.args.first c.points_of.result
    (jumps_of c.args.jumps.now) (walked c.args.next.now)
    (ap statements_of c.in-Some.ensures.cases.0) c.points_of.ensures _ _ _ (ap statement_of c.in-Havoc.is) c.in_ok-add-in-Havoc.ensures)
    c.walk-in-Havoc.ensures

pub walk-returns-in-Check : goal.walk-returns-in-Check
walk-returns-in-Check t c =
    on_ok_weaker c.walk-in-Check.result
    (walked_check _ _ c.args.trail (statements_of c.args.stmts.now) (statements_of c.in-Some.rest.now) (statement_of c.in-Some.stmt.now)
    c.args.first c.points_of.result
    (jumps_of c.args.jumps.now) (walked c.args.next.now)
    (ap statements_of c.in-Some.ensures.cases.0) c.points_of.ensures _ _ _ _ (ap statement_of c.in-Check.is) c.in_ok-add-in-Check.ensures)
    c.walk-in-Check.ensures

pub walk-returns-in-Where : goal.walk-returns-in-Where
walk-returns-in-Where t c =
    on_ok_weaker c.walk_cases.result
    (walked_where _ _ c.args.trail (statements_of c.args.stmts.now) (statements_of c.in-Some.rest.now) (statement_of c.in-Some.stmt.now)
    c.args.first c.points_of.result
    (jumps_of c.args.jumps.now) (walked c.args.next.now)
    (ap statements_of c.in-Some.ensures.cases.0) c.points_of.ensures (condition_of c.in-Where.cond) _ c.in_ok-allowed-in-Where.allowed
    (ap statement_of c.in-Where.is) c.in_ok-allowed-in-Where.ensures)
    c.walk_cases.ensures

pub walk_cases-loop-case-preserved : goal.walk_cases-loop-case-preserved
walk_cases-loop-case-preserved t c =
    let ways = ways_in (statements_of c.args.stmts.now) c.args.first (jumps_of c.args.jumps.now) (walked c.args.next.now) in
    let b = c.args.trail.now in
    let e = c.in_ok-walk.ensures in
    loop_step (λ cases. split b cases ways) (λ forms. reached (followed b (guards forms)) ways) (λ x xs. refl) _ _ _
    c.as_slice-case-items.result.now c.loop-case.case-index c.case-item.result
    c.loop-case-test.true c.case-item.is (rw c.in_ok-longer.ensures at e) c.loop-case.invariant

pub walk-returns-then-as_slice-gt1 : goal.walk-returns-then-as_slice-gt1
walk-returns-then-as_slice-gt1 t c =
    on_ok_weaker c.go_on_by_case.result
    (walked_split _ _ c.args.trail (statements_of c.args.stmts.now) (statements_of c.in-Some.rest.now) (statement_of c.in-Some.stmt.now)
    c.args.first c.points_of.result
    (jumps_of c.args.jumps.now) (walked c.args.next.now)
    (ap statements_of c.in-Some.ensures.cases.0) c.points_of.ensures (condition_of c.in-Assume.cond) _ c.in_ok-cases-in-Assume.cases _
    (ap statement_of c.in-Assume.is) c.in_ok-cases-in-Assume.ensures (rw c.as_slice.ensures at c.if-as_slice-gt1.true)
    (ap walked c.as_slice-then-as_slice-gt1.ensures ∙ c.in_ok-point-in-Assume.ensures))
    c.go_on_by_case.ensures

pub walk-returns-in-Assume : goal.walk-returns-in-Assume
walk-returns-in-Assume t c =
    on_ok_weaker c.walk_cases-else-as_slice-gt1.result
    (walked_assume _ _ c.args.trail (statements_of c.args.stmts.now) (statements_of c.in-Some.rest.now) (statement_of c.in-Some.stmt.now)
    c.args.first c.points_of.result
    (jumps_of c.args.jumps.now) (walked c.args.next.now)
    (ap statements_of c.in-Some.ensures.cases.0) c.points_of.ensures (condition_of c.in-Assume.cond) _ c.in_ok-cases-in-Assume.cases
    (ap statement_of c.in-Assume.is) c.in_ok-cases-in-Assume.ensures (rw c.as_slice.ensures at c.if-as_slice-gt1.false))
    c.walk_cases-else-as_slice-gt1.ensures

pub walk-returns-in-If : goal.walk-returns-in-If
walk-returns-in-If t c =
    on_ok_weaker c.walk_branches.result
    (walked_branch _ _ c.args.trail (statements_of c.args.stmts.now) (statements_of c.in-Some.rest.now) (statement_of c.in-Some.stmt.now)
    c.args.first c.points_of.result
    (jumps_of c.args.jumps.now) (walked c.args.next.now)
    (ap statements_of c.in-Some.ensures.cases.0) c.points_of.ensures (condition_of c.in-If.cond) c.in-If.yes c.in-If.no _ _ _
    (ap statement_of c.in-If.is) c.as_slice-yes.ensures c.as_slice-no.ensures)
    c.walk_branches.ensures

pub walk-returns-in-Break : goal.walk-returns-in-Break
walk-returns-in-Break t c =
    on_ok_weaker c.go_on-in-Break.result
    (walked_break _ _ c.args.trail (statements_of c.args.stmts.now) (statements_of c.in-Some.rest.now) (statement_of c.in-Some.stmt.now)
    c.args.first c.points_of.result
    (jumps_of c.args.jumps.now) (walked c.args.next.now)
    (ap statements_of c.in-Some.ensures.cases.0) c.points_of.ensures _ _ (ap statement_of c.in-Break.is)
    (ap walked c.as_slice-in-Break.ensures))
    c.go_on-in-Break.ensures

pub walk_branches-returns : goal.walk_branches-returns
walk_branches-returns t c =
    on_ok_weaker c.walk_cases-2.result
    (branched _ c.walk_cases.new.edges.items _ c.args.trail.now (condition_of c.args.cond.now) (statements_of c.args.yes.now)
    (statements_of c.args.no.now) c.args.first
    c.points_in.result c.points_in-2.result (jumps_of c.args.jumps.now) c.in_ok-held.held c.in_ok-failed.failed _
    c.in_ok-held.ensures c.in_ok-failed.ensures c.points_in.ensures c.points_in-2.ensures
    (ap walked c.as_slice-join.ensures ∙ c.in_ok-arrived.ensures)
    c.in_ok-walk_cases.ensures)
    c.walk_cases-2.ensures
