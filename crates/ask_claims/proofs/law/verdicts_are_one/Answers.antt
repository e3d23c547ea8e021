use Rattle.ask_claims.proofs.laws.Lists.{verdicts_are_one}
use Rattle.ask_claims.proofs.law.verdicts_are_one.Goals as goal

pub returns : goal.returns
returns c = verdicts_are_one
