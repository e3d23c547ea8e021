use Rattle.top_texts.proofs.claim_texts.Judged.{unclaimed}
use Rattle.top_texts.proofs.prove.claim_refusal.Goals as goal

pub returns-in_default : goal.returns-in_default
returns-in_default c = λ text rows given policy limit system is means. unclaimed text rows given policy limit system is c.args.fault
    (means c.in_default.not-NoMemory)
