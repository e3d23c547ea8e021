use Rattle.ask_claims.proofs.laws.Lists.{proved_hold}
use Rattle.ask_claims.proofs.law.proved_verdicts_hold.Goals as goal

pub returns : goal.returns
returns c = proved_hold
