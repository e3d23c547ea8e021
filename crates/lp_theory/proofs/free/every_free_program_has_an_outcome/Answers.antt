use Rattle.lp_theory.proofs.FreePrograms.{free_lp_is}
use Rattle.lp_theory.proofs.free.every_free_program_has_an_outcome.Goals as goal

pub returns : goal.returns
returns c = free_lp_is
