use Rattle.theory_rounds.proofs.evidence.EvidenceWords.{evidence_words}
use Rattle.theory_rounds.proofs.law.evidence_is_read.Goals as goal

pub returns : goal.returns
returns c = evidence_words
