use Rattle.cert_checker.proofs.events.CheckTests.{stops_are_faults}
use Rattle.cert_checker.proofs.law.stops_are_faults.Goals as goal

pub returns : goal.returns
returns c = stops_are_faults
