use Rattle.std.proofs.Common.{◌∙◌, true, false, ap, sym}
use Rattle.base_numbers.specs.Rational.{ℚ, lt_ℚ}
use Rattle.base_fractions.specs.Operation.{operation_of}
use Rattle.solve_raise.specs.Numbers.{fitting, next_whole}
use Rattle.solve_raise.proofs.number.Widths.{less_is}
use Rattle.solve_raise.proofs.number.Towards.{next_fits, next_wide, both_is, neither}
use Rattle.solve_raise.proofs.number.next_below.Goals as goal

pub returns-in_default : goal.returns-in_default
returns-in_default c =
    neither (fitting (next_whole c.args.bound)) (lt_ℚ (next_whole c.args.bound) c.args.value)
    (next_wide c.args.bound (operation_of (λ (q : ℚ). q) c.in_default.field-0) c.in_default.ensures)

pub returns-then-lt : goal.returns-then-lt
returns-then-lt c = (
  c.in-Ok.ensures.0,
  both_is (fitting (next_whole c.args.bound)) (lt_ℚ (next_whole c.args.bound) c.args.value) true (next_fits c.args.bound c.in-Ok.ensures.1)
      (ap (λ x. lt_ℚ x c.args.value) (sym c.in-Ok.ensures.0) ∙ less_is c.in-Ok.next c.args.value c.lt.result c.lt.ensures ∙ c.if-lt.true),
)

pub returns-else-lt : goal.returns-else-lt
returns-else-lt c =
    both_is (fitting (next_whole c.args.bound)) (lt_ℚ (next_whole c.args.bound) c.args.value) false
    (next_fits c.args.bound c.in-Ok.ensures.1)
    (ap (λ x. lt_ℚ x c.args.value) (sym c.in-Ok.ensures.0) ∙ less_is c.in-Ok.next c.args.value c.lt.result c.lt.ensures ∙ c.if-lt.false)
