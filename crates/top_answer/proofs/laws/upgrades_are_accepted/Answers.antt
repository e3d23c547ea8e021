use Rattle.top_texts.proofs.checks.Upgraded.{upgraded_accepted}
use Rattle.top_answer.proofs.laws.Lawful.{upgraded_report}
use Rattle.top_answer.proofs.laws.upgrades_are_accepted.Goals as goal

pub returns : goal.returns
returns c = record { accepted = upgraded_accepted; report = upgraded_report }
