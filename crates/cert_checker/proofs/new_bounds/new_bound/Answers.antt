use Rattle.std.proofs.Common.{◌∙◌, refl, sym, ap}
use Rattle.base_numbers.specs.Extended.{fin}
use Rattle.theory_validity.specs.Steps.{new_value}
use Rattle.cert_checker.specs.Items.{item_at}
use Rattle.cert_checker.proofs.names.Items.{number_is}
use Rattle.cert_checker.proofs.new_bounds.new_bound.Goals as goal

pub returns-in-Ray : goal.returns-in-Ray
unfolding new_value
returns-in-Ray c = rw c.in-Ray.is (λ rows. refl)

pub returns-in_default : goal.returns-in_default
returns-in_default c = λ rows. ap fin (sym (c.number_at.ensures rows))
    ∙ sym (number_is c.args.step.now rows (item_at rows c.args.step.now c.args.k) c.in_default.not-Ray)
