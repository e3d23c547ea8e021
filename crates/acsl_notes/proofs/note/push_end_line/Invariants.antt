use Rattle.std.proofs.Common.{◌≡◌, ◌++◌, None, drop}
use Rattle.acsl_notes.specs.Texts.{end_comment}
use Rattle.acsl_notes.specs.View.{clauses_of_said}
use Rattle.acsl_notes.proofs.note.push_end_line.Given as goal

abbrev pub invariant-loop-clause : goal.invariant-loop-clause
invariant-loop-clause l =
    l.text.items ++ end_comment l.names None (clauses_of_said l.rows (drop l.clause-index l.said))
    ≡ l.initial.text.items ++ end_comment l.names None (clauses_of_said l.rows l.said)
