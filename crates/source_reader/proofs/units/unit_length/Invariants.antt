use Rattle.source_reader.proofs.units.Ending.{GoesOnAt}
use Rattle.source_reader.proofs.units.unit_length.Given as goal

abbrev pub invariant-loop-place : goal.invariant-loop-place
invariant-loop-place l = GoesOnAt l.depth l.place l.tokens
