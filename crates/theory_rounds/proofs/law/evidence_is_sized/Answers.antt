use Rattle.theory_rounds.proofs.evidence.EvidenceWords.{evidence_sizes}
use Rattle.theory_rounds.proofs.law.evidence_is_sized.Goals as goal

pub returns : goal.returns
returns c = evidence_sizes
