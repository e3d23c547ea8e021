use Rattle.std.proofs.Common.{◌≡◌, ◌++◌, []}
use Rattle.acsl_notes.specs.Clauses.{clauses_from}
use Rattle.acsl_notes.specs.View.{bounded, clauses_of_said}
use Rattle.acsl_notes.proofs.said.Rows.{rest_says}
use Rattle.acsl_notes.proofs.clause.row_clauses.Given as goal

abbrev pub invariant-loop-row : goal.invariant-loop-row
invariant-loop-row l =
    clauses_of_said l.rows l.said.items ++ rest_says l.known l.rows l.bounds l.row ≡ clauses_from l.known [] (bounded l.rows l.bounds)
