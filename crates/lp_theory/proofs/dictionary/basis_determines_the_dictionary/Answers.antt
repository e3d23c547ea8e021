use Rattle.lp_theory.proofs.dictionary.Dictionaries.{same_const, same_coef}
use Rattle.lp_theory.proofs.dictionary.basis_determines_the_dictionary.Goals as goal

pub returns-clause-constants : goal.returns-clause-constants
returns-clause-constants c = same_const

pub returns-clause-coefficients : goal.returns-clause-coefficients
returns-clause-coefficients c = same_coef
