use Rattle.std.proofs.Common.{◌∙◌, sym, ap, min, arith}
use Rattle.lang_tree.specs.View.{condition_of, deeds_of, statement_of, statements_of}
use Rattle.flow_edges.specs.declared.edge_count.JumpCounts.{JumpCounts}
use Rattle.flow_edges.specs.Counts.{deeds_count, edge_count_of, tested_count, way_count_in}
use Rattle.flow_edges.specs.declared.saturated.TheConstants.{ENOUGH}
use Rattle.flow_edges.proofs.edge_count.Saturation.{counted_on, counted_off, counted_tested, counted_ends, counted_do}
use Rattle.flow_edges.proofs.edge_count.+edge_counts.Goals as goal

pub edge_count_in-returns-then-completes : goal.edge_count_in-returns-then-completes
edge_count_in-returns-then-completes t c =
    counted_on (statements_of c.args.stmts.now) (statements_of c.in-Some.rest.now) (statement_of c.in-Some.stmt.now) c.args.jumps
    c.args.next c.way_count.result _ _ _
    (ap statements_of c.in-Some.ensures.cases.0) (sym c.completes.ensures ∙ c.if-completes.true) c.way_count.ensures
    c.edge_count_of-count.ensures c.edge_count_in.ensures
    c.sum.ensures

pub edge_count_in-returns-else-completes : goal.edge_count_in-returns-else-completes
edge_count_in-returns-else-completes t c =
    counted_off (statements_of c.args.stmts.now) (statements_of c.in-Some.rest.now) (statement_of c.in-Some.stmt.now) c.args.jumps
    c.args.next c.way_count.result _
    (ap statements_of c.in-Some.ensures.cases.0) (sym c.completes.ensures ∙ c.if-completes.false) c.way_count.ensures
    c.edge_count_of-count.ensures

pub edge_count_of-returns-in-For : goal.edge_count_of-returns-in-For
edge_count_of-returns-in-For t c =
    let cond = condition_of c.in-For.cond in
    let next = c.args.next in
    c.tested_count-in-For.ensures
    ∙ ap (λ p. min (tested_count p cond c.in-For.body c.deeds_count-end.result next) ENOUGH) c.as_slice-in-For-2.ensures
    ∙ counted_ends c.in-For.prelude cond c.in-For.body c.deeds_count-end.result (deeds_count c.in-For.change 1) next
    (c.deeds_count-end.ensures ∙ ap (λ g. min (deeds_count g 1) ENOUGH) c.as_slice-in-For.ensures)
    ∙ ap (λ s. min (edge_count_of s c.args.jumps next) ENOUGH) (sym (ap statement_of c.in-For.is))

pub edge_count_of-returns-in-Do : goal.edge_count_of-returns-in-Do
edge_count_of-returns-in-Do t c =
    counted_do c.in-Do.prelude (condition_of c.in-Do.cond) c.in-Do.body _ c.in-Do.line c.args.jumps c.args.next c.choice_count.result
    c.deeds_count-end-in-Do.result _ _ _
    c.as_slice-stmts.ensures
    (c.choice_count.ensures.count 1 c.args.next (omega arith) (omega arith))
    (c.deeds_count-end-in-Do.ensures ∙ ap (λ p. min (deeds_count p c.choice_count.result) ENOUGH) c.as_slice-in-Do.ensures)
    c.way_count.ensures
    c.edge_count_in-in-Do.ensures c.sum-in-Do.ensures
    ∙ ap (λ s. min (edge_count_of s c.args.jumps c.args.next) ENOUGH) (sym (ap statement_of c.in-Do.is))

pub tested_count-returns : goal.tested_count-returns
tested_count-returns t c =
    let inner : JumpCounts = record { broken = c.args.next; continued = c.args.end } in
    let ways = way_count_in (statements_of c.as_slice-stmts.result.now) inner c.args.end in
    counted_tested (deeds_of c.args.prelude.now) (condition_of c.args.cond.now) c.args.body.now _ c.args.end c.args.next
    c.choice_count-turn.result _ _ _ c.as_slice-stmts.ensures
    (c.choice_count-turn.ensures.count ways c.args.next c.way_count.ensures (omega arith)) c.deeds_count.ensures c.edge_count_in.ensures
    c.sum.ensures
