use Rattle.ask_checks.proofs.laws.Held.{proved_hold}
use Rattle.ask_checks.proofs.law.proved_verdicts_hold.Goals as goal

pub returns : goal.returns
returns c = proved_hold
