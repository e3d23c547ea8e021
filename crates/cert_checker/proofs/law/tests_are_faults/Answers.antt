use Rattle.cert_checker.proofs.events.CheckTests.{tests_are_faults}
use Rattle.cert_checker.proofs.law.tests_are_faults.Goals as goal

pub returns : goal.returns
returns c = tests_are_faults
