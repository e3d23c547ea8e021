use Rattle.ask_verdicts.proofs.laws.Determined.{wide_verdicts_dont_fit, refusals_are_one}
use Rattle.ask_verdicts.proofs.law.refusals_are_one.Goals as goal

pub returns-clause-apart : goal.returns-clause-apart
returns-clause-apart c = wide_verdicts_dont_fit

pub returns-clause-one : goal.returns-clause-one
returns-clause-one c = refusals_are_one
