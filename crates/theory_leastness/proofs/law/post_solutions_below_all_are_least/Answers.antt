use Rattle.theory_leastness.proofs.BelowAll.{below_all_least}
use Rattle.theory_leastness.proofs.law.post_solutions_below_all_are_least.Goals as goal

pub returns : goal.returns
returns c = below_all_least
