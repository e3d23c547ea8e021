use Rattle.std.proofs.Common.{◌≡◌, ◌++◌, drop}
use Rattle.acsl_notes.specs.Texts.{label_comment}
use Rattle.acsl_notes.specs.View.{clauses_of_said}
use Rattle.acsl_notes.proofs.note.push_label.Given as goal

abbrev pub invariant-loop-clause : goal.invariant-loop-clause
invariant-loop-clause l =
    l.text.items ++ label_comment l.names (clauses_of_said l.rows (drop l.clause-index l.said))
    ≡ l.initial.text.items ++ label_comment l.names (clauses_of_said l.rows l.said)
