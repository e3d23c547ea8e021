use Rattle.std.proofs.Common.{length}
use Rattle.top_run.proofs.output.InPieces.{HasPut, HasTaken}
use Rattle.top_run.proofs.output.put_lines.Given as goal

abbrev pub invariant-loop-rest : goal.invariant-loop-rest
invariant-loop-rest g l =
    HasPut (g.K.Sink.held l.initial.out) (g.K.Sink.held l.out) (g.K.Sink.faults l.initial.out) (g.K.Sink.faults l.out)
    (g.K.Sink.spare l.initial.out) (g.K.Sink.spare l.out) l.text l.rest
    × HasTaken (g.K.Sink.taken l.initial.out) (g.K.Sink.taken l.out) l.text l.rest

abbrev pub decreases-loop-rest : goal.decreases-loop-rest
decreases-loop-rest g l = length l.rest
