use Rattle.std.proofs.Common.{◌∙◌, pos, [], ◌∷◌, ap, sym, subst, subst₂, arith}
use Rattle.std.proofs.lemmas.Int.{ints}
use Rattle.std.proofs.lemmas.Result.{err_from_is_err_and}
use Rattle.base_numbers.specs.Rational.{ℚ, whole, ◌+ℚ◌, ◌/ℚ◌}
use Rattle.base_numbers.proofs.rational.Quotients.{whole_ne_zero}
use Rattle.base_fractions.specs.Fits.{Fits, long_limit}
use Rattle.base_fractions.specs.declared.wide.Op.TheVariants.{Add, Div}
use Rattle.base_fractions.specs.Operation.{operation_of}
use Rattle.flow_systems.specs.Sums.{SumAnswers}
use Rattle.flow_systems.proofs.Widths.{one_answer}
use Rattle.solve_raise.proofs.number.Widths.{then, stops}
use Rattle.solve_raise.proofs.number.middle.Goals as goal

pub over-requires : goal.over-requires
over-requires c = λ e. whole_ne_zero {z = pos 2} (λ f. omega (arith, ints, f)) (sym c.two.ensures ∙ e)

pub returns-in_err-sum : goal.returns-in_err-sum
returns-in_err-sum c =
    let p = err_from_is_err_and c.from_residual.result c.from_residual.ensures.1 in
    rw (p.1, p.2)
    (stops (record { op = Add; left = c.args.bound; right = c.args.value })
    (record { op = Div; left = c.args.bound +ℚ c.args.value; right = whole (pos 2) } ∷ []) c.in_err-sum.field-0.0 c.in_err-sum.ensures.0
    (ap (operation_of (λ (q : ℚ). q)) c.in_err-sum.ensures.1))

pub returns : goal.returns
returns c =
    let e = c.in_ok-sum.ensures.0 in
    then (record { op = Add; left = c.args.bound; right = c.args.value })
    (record { op = Div; left = c.args.bound +ℚ c.args.value; right = whole (pos 2) } ∷ [])
    ((c.args.bound +ℚ c.args.value) /ℚ whole (pos 2)) c.over.result
    (subst (Fits long_limit) e c.in_ok-sum.ensures.1)
    (subst₂ (λ s t. SumAnswers (s /ℚ t) (record { op = Div; left = s; right = t } ∷ []) c.over.result) e c.two.ensures
    (one_answer Div c.in_ok-sum.sum c.two.result c.over.result c.over.ensures))
