use Rattle.ask_words.proofs.request.OfSolve.{reports}
use Rattle.ask_words.proofs.laws.solve_reports.Goals as goal

pub returns : goal.returns
returns c = reports
