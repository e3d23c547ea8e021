use Rattle.std.proofs.Common.{◌≡◌, drop}
use Rattle.acsl_notes.specs.Clauses.{is_opposite}
use Rattle.acsl_notes.proofs.meet.is_opposite.Given as goal

abbrev pub invariant-loop-index : goal.invariant-loop-index
invariant-loop-index l = is_opposite (drop l.index l.row) (drop l.index l.other) ≡ is_opposite l.row l.other
