use Rattle.acsl_notes.proofs.truth.Truth.{clauses_hold as law}
use Rattle.acsl_notes.proofs.laws.clauses_hold.Goals as goal

pub returns : goal.returns
returns c = law
