use Rattle.lp_theory.proofs.search.Programs.{lp_is}
use Rattle.lp_theory.proofs.simplex.every_program_has_an_outcome.Goals as goal

pub returns : goal.returns
returns c = lp_is
