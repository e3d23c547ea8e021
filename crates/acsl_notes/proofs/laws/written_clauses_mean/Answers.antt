use Rattle.acsl_notes.proofs.written.Says.{written}
use Rattle.acsl_notes.proofs.laws.written_clauses_mean.Goals as goal

pub returns : goal.returns
returns c = written
