use Rattle.std.proofs.Common.{◌≡◌, ◌++◌, drop, map}
use Rattle.acsl_notes.specs.Texts.{invariant_text, joined_on}
use Rattle.acsl_notes.specs.View.{clauses_of_said}
use Rattle.acsl_notes.proofs.note.push_more_invariants.Given as goal

abbrev pub invariant-loop-clause : goal.invariant-loop-clause
invariant-loop-clause l =
    l.text.items ++ joined_on l.between (map (invariant_text l.names) (clauses_of_said l.rows (drop l.clause-index l.said)))
    ≡ l.initial.text.items ++ joined_on l.between (map (invariant_text l.names) (clauses_of_said l.rows l.said))
