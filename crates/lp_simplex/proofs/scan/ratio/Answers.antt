use Rattle.std.proofs.Common.{◌≡◌, Some, None, ap, ◌∙◌, subst}
use Rattle.std.proofs.lemmas.Result.{err_from_is_err_and, MatchResult-at_ok, MatchResult-at_err}
use Rattle.base_numbers.specs.Rational.{zero_ℚ, neg_ℚ, ◌≤ℚ◌, ◌<ℚ◌}
use Rattle.base_fractions.specs.Operation.{first_wide, operation_of}
use Rattle.lp_simplex.specs.Operations.{ratio_operation}
use Rattle.lp_simplex.specs.Choices.{ratio_at}
use Rattle.lp_simplex.proofs.scan.Signs.{sign_ge, sign_lt}
use Rattle.lp_simplex.proofs.scan.Scans.{ratio_none, ratio_some, negated_not_zero}
use Rattle.lp_simplex.proofs.scan.ratio.Goals as goal

pub returns-then-num-ge0 : goal.returns-then-num-ge0
returns-then-num-ge0 g c =
    let T = g.T.Tableau.table c.args.tableau.now in
    let h = subst (λ x. zero_ℚ ≤ℚ x) c.entry-entry.ensures (sign_ge (g.F.OrderedField.meaning c.entry-entry.result) c.num.result
    c.num.type_inv c.num.ensures.value c.if-num-ge0.true) in
    (h, ratio_none g.F.OrderedField.LIMIT T c.args.col c.args.row h)

pub over-requires : goal.over-requires
over-requires g c =
    let h = sign_lt (g.F.OrderedField.meaning c.entry-entry.result) c.num.result c.num.type_inv c.num.ensures.value c.if-num-ge0.false in
    negated_not_zero (g.F.OrderedField.meaning c.entry-entry.result) (g.F.OrderedField.meaning c.negate.result) h c.negate.ensures.value

pub returns-in_err-quotient : goal.returns-in_err-quotient
returns-in_err-quotient g c =
    let m = g.F.OrderedField.meaning in
    let L = g.F.OrderedField.LIMIT in
    let T = g.T.Tableau.table c.args.tableau.now in
    let p = err_from_is_err_and c.from_residual.result c.from_residual.ensures.1 in
    let h = subst (λ x. x <ℚ zero_ℚ) c.entry-entry.ensures (sign_lt (m c.entry-entry.result) c.num.result c.num.type_inv c.num.ensures.value
    c.if-num-ge0.false) in
    let a = ratio_some m L T c.args.col c.args.row c.constant.result c.negate.result c.over.result h c.constant.ensures
    (c.negate.ensures.value ∙ ap neg_ℚ c.entry-entry.ensures) c.over.ensures in
    rw (p.1, p.2)
    (MatchResult-at_err (λ r. (m r ≡ ratio_at T c.args.col c.args.row) × (first_wide L (ratio_operation T c.args.col c.args.row) ≡ None))
    (λ w. first_wide L (ratio_operation T c.args.col c.args.row) ≡ Some (operation_of m w)) c.in_err-quotient.field-0.0
    c.in_err-quotient.was a)

pub returns : goal.returns
returns g c =
    let m = g.F.OrderedField.meaning in
    let L = g.F.OrderedField.LIMIT in
    let T = g.T.Tableau.table c.args.tableau.now in
    let h = subst (λ x. x <ℚ zero_ℚ) c.entry-entry.ensures (sign_lt (m c.entry-entry.result) c.num.result c.num.type_inv c.num.ensures.value
    c.if-num-ge0.false) in
    let a = ratio_some m L T c.args.col c.args.row c.constant.result c.negate.result c.over.result h c.constant.ensures
    (c.negate.ensures.value ∙ ap neg_ℚ c.entry-entry.ensures) c.over.ensures in
    let b = MatchResult-at_ok (λ r. (m r ≡ ratio_at T c.args.col c.args.row)
    × (first_wide L (ratio_operation T c.args.col c.args.row) ≡ None))
    (λ w. first_wide L (ratio_operation T c.args.col c.args.row) ≡ Some (operation_of m w)) c.in_ok-quotient.quotient
    c.in_ok-quotient.was a in
    ((h, b.0), b.1)
