use Rattle.cert_checker.proofs.events.CheckTests.{unstopped_is_valid, unstopped_is_least}
use Rattle.cert_checker.proofs.law.unstopped_is_valid.Goals as goal

pub returns : goal.returns
returns c = record { valid = unstopped_is_valid; least = unstopped_is_least }
