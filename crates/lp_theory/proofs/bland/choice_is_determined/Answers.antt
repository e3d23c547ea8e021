use Rattle.lp_theory.proofs.search.Steps.{choose_is}
use Rattle.lp_theory.proofs.TableChoices.{choose_only}
use Rattle.lp_theory.proofs.bland.choice_is_determined.Goals as goal

pub returns-clause-is : goal.returns-clause-is
returns-clause-is c = choose_is

pub returns-clause-only : goal.returns-clause-only
returns-clause-only c = choose_only
