use Rattle.ask_verdicts.proofs.laws.Determined.{verdicts_are_one}
use Rattle.ask_verdicts.proofs.law.verdicts_are_one.Goals as goal

pub returns : goal.returns
returns c = verdicts_are_one
