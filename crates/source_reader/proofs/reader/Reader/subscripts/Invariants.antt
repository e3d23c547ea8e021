use Rattle.source_reader.proofs.Counting.{CountsOn}
use Rattle.source_reader.proofs.reader.Reader.subscripts.Given as goal

abbrev pub invariant-loop-token : goal.invariant-loop-token
invariant-loop-token l = CountsOn l.brackets l.token-index l.token-items
