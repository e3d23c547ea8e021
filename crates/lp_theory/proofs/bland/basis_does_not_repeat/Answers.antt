use Rattle.lp_theory.proofs.NoRepeat.{no_repeat}
use Rattle.lp_theory.proofs.bland.basis_does_not_repeat.Goals as goal

pub returns : goal.returns
returns c = no_repeat
