use Rattle.lp_theory.proofs.dictionary.Dictionaries.{extend_models, extend_free, extend_only}
use Rattle.lp_theory.proofs.dictionary.free_values_extend.Goals as goal

pub returns-clause-exists : goal.returns-clause-exists
returns-clause-exists c = extend_models

pub returns-clause-keeps : goal.returns-clause-keeps
returns-clause-keeps c = extend_free

pub returns-clause-only : goal.returns-clause-only
returns-clause-only c = extend_only
