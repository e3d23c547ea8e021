use Rattle.lang_tree.proofs.cases.CaseLaw.{cases_law}
use Rattle.lang_tree.proofs.law.cases_are_truth.Goals as goal

pub returns : goal.returns
returns c = cases_law
