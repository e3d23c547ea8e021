use Rattle.theory_rounds.proofs.evidence.EvidenceWords.{raise_is_read}
use Rattle.theory_rounds.proofs.law.raises_are_read.Goals as goal

pub returns : goal.returns
returns c = raise_is_read
