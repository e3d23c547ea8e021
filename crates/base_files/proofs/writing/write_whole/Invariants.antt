use Rattle.std.proofs.Common.{length}
use Rattle.base_files.proofs.writing.Parts.{HasWritten}
use Rattle.base_files.proofs.writing.write_whole.Given as goal

abbrev pub invariant-loop-rest : goal.invariant-loop-rest
invariant-loop-rest g l = HasWritten (g.W.Write.contents l.initial.writer) (g.W.Write.contents l.writer) l.initial.rest l.rest

abbrev pub decreases-loop-rest : goal.decreases-loop-rest
decreases-loop-rest g l = length l.rest
