use Rattle.ask_checks.proofs.laws.Held.{checks_hold}
use Rattle.ask_checks.proofs.law.proved_checks_hold.Goals as goal

pub returns : goal.returns
returns c = checks_hold
