use Rattle.lp_theory.proofs.simplex.ReadOff.{first_means}
use Rattle.lp_theory.proofs.simplex.first_dictionary_is_the_equations.Goals as goal

pub returns : goal.returns
returns c = first_means
