use Rattle.std.proofs.Common.{◌∙◌, ap, sym, get_or}
use Rattle.base_numbers.specs.Rational.{zero_ℚ}
use Rattle.theory_validity.specs.Words.{column}
use Rattle.solve_composition.proofs.composed.Dense.{column-here, column-other}
use Rattle.solve_composition.proofs.form.unit_entry.Goals as goal

pub returns-then-at-place : goal.returns-then-at-place
returns-then-at-place c = c.one.ensures.value ∙ sym (column-here c.args.place)
    ∙ ap (λ k. get_or (column c.args.place).coeffs k zero_ℚ) (sym c.if-at-place.true)

pub returns-else-at-place : goal.returns-else-at-place
returns-else-at-place c = c.zero.ensures.value ∙ sym (column-other c.args.place c.args.at c.if-at-place.false)
