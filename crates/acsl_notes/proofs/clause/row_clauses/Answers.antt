use Rattle.std.proofs.Common.{◌+◌, ◌++◌, ap, sym, ◌∙◌, append_assoc}
use Rattle.acsl_notes.proofs.said.Rows.{rest_says, rest_step}
use Rattle.acsl_notes.specs.View.{clauses_of_said}
use Rattle.acsl_notes.proofs.clause.row_clauses.Goals as goal

pub loop-row-preserved : goal.loop-row-preserved
loop-row-preserved c =
    ap (λ said. said ++ rest_says c.args.known.now c.args.rows.now c.args.bounds.now (c.loop-row.row + 1)) c.in_ok-push_clause.ensures
    ∙ append_assoc (clauses_of_said c.args.rows.now c.loop-row.said.items) _
    (rest_says c.args.known.now c.args.rows.now c.args.bounds.now (c.loop-row.row + 1))
    ∙ ap (λ said. clauses_of_said c.args.rows.now c.loop-row.said.items ++ said)
    (sym (rest_step c.args.known.now c.args.rows.now c.args.bounds.now c.loop-row.row c.loop-row-test.true c.requires))
    ∙ c.loop-row.invariant
