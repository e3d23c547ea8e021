use Rattle.top_answer.proofs.commands.Checks.{reported}
use Rattle.top_answer.proofs.outcome.accepted.Goals as goal

pub returns-clause-says : goal.returns-clause-says
returns-clause-says c = λ text bytes spelt. reported text bytes _ _ _ _ _ _ _ spelt c.report_by-made.ensures.ok c.report_by-made.ensures.err
    c.outcome_from.ensures.is
