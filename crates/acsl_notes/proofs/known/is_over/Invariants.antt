use Rattle.std.proofs.Common.{◌≡◌, drop}
use Rattle.acsl_notes.specs.Clauses.{is_over}
use Rattle.acsl_notes.proofs.known.is_over.Given as goal

abbrev pub invariant-loop-index : goal.invariant-loop-index
invariant-loop-index l = is_over l.index l.known (drop l.index l.row) ≡ is_over 0 l.known l.row
