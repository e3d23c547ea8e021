use Rattle.top_answer.proofs.laws.Opened.{judged_or_not, of_checks}
use Rattle.top_answer.proofs.laws.open_is_of_checks.Goals as goal

pub returns : goal.returns
returns c = record { verify = of_checks; judged = judged_or_not }
