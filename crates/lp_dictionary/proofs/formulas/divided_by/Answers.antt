use Rattle.std.proofs.Common.{◌≢◌, true≢false, sym, ◌∙◌}
use Rattle.std.proofs.lemmas.Result.{err_from_is_err_and}
use Rattle.base_numbers.specs.Rational.{zero_ℚ}
use Rattle.lp_dictionary.proofs.Entries.{divided_at, divided_zero, divided_refused, divided_off}
use Rattle.lp_dictionary.proofs.formulas.divided_by.Goals as goal

pub returns-then-at_pivot : goal.returns-then-at_pivot
returns-then-at_pivot g c =
    divided_at g.F.OrderedField.LIMIT g.F.OrderedField.meaning c.one.result c.args.pivot (g.F.OrderedField.meaning c.args.entry)
    c.args.at_pivot c.over.result c.if-at_pivot.true c.one.ensures.value c.over.ensures

pub returns-then-is_zero : goal.returns-then-is_zero
returns-then-is_zero g c =
    divided_zero g.F.OrderedField.LIMIT (g.F.OrderedField.meaning c.args.entry) (g.F.OrderedField.meaning c.args.pivot) c.args.at_pivot
    c.if-at_pivot.false (c.is_zero.ensures.0 c.if-is_zero.true)

pub returns-in_err-quotient : goal.returns-in_err-quotient
returns-in_err-quotient g c =
    let p = err_from_is_err_and c.from_residual.result c.from_residual.ensures.1 in
    let n : g.F.OrderedField.meaning c.args.entry ≢ zero_ℚ = λ z. true≢false (sym (c.is_zero.ensures.1 z) ∙ c.if-is_zero.false) in
    rw (p.1, p.2, c.in_err-quotient.ensures.1)
    (divided_refused g.F.OrderedField.LIMIT (g.F.OrderedField.meaning c.args.entry) (g.F.OrderedField.meaning c.args.pivot) c.args.at_pivot
    c.if-at_pivot.false n c.in_err-quotient.ensures.0)

pub returns : goal.returns
returns g c =
    divided_off g.F.OrderedField.LIMIT (g.F.OrderedField.meaning c.args.entry) (g.F.OrderedField.meaning c.args.pivot)
    (g.F.OrderedField.meaning c.in_ok-quotient.quotient) (g.F.OrderedField.meaning c.negate.result) c.args.at_pivot
    c.if-at_pivot.false (λ z. true≢false (sym (c.is_zero.ensures.1 z) ∙ c.if-is_zero.false)) c.in_ok-quotient.ensures.0
    c.in_ok-quotient.ensures.1 c.negate.ensures.value
