use Rattle.ask_claims.proofs.laws.Refusals.{wide_claims_dont_fit, refusals_are_one}
use Rattle.ask_claims.proofs.law.refusals_are_one.Goals as goal

pub returns-clause-apart : goal.returns-clause-apart
returns-clause-apart c = wide_claims_dont_fit

pub returns-clause-one : goal.returns-clause-one
returns-clause-one c = refusals_are_one
