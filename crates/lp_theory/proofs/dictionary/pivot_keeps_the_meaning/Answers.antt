use Rattle.lp_theory.proofs.Pivots.{pivot_form, pivot_means, pivot_means_back}
use Rattle.lp_theory.proofs.dictionary.pivot_keeps_the_meaning.Goals as goal

pub returns-clause-form : goal.returns-clause-form
returns-clause-form c = pivot_form

pub returns-clause-onwards : goal.returns-clause-onwards
returns-clause-onwards c = pivot_means

pub returns-clause-backwards : goal.returns-clause-backwards
returns-clause-backwards c = pivot_means_back
