use Rattle.std.proofs.Common.{◌≤◌, subst, subst₂}
use Rattle.base_numbers.specs.Rational.{zero_ℚ, ◌≤ℚ◌, ◌<ℚ◌}
use Rattle.lp_simplex.specs.Choices.{EntersAt}
use Rattle.lp_simplex.proofs.scan.Signs.{sign_le, sign_gt}
use Rattle.lp_simplex.proofs.scan.Scans.{enters_past, enters_smaller, enters_first, enters_none}
use Rattle.lp_simplex.proofs.scan.smaller_column.Goals as goal

pub returns-then-num-le0 : goal.returns-then-num-le0
returns-then-num-le0 g c =
    enters_past (g.T.Tableau.table c.args.tableau.now) c.args.goal c.args.col c.args.best c.requires.best
    (subst (λ x. x ≤ℚ zero_ℚ) c.entry.ensures (sign_le (g.F.OrderedField.meaning c.entry.result) c.num.result c.num.type_inv
    c.num.ensures.value c.if-num-le0.true))

pub returns-else-other : goal.returns-else-other
returns-else-other g c =
    let T = g.T.Tableau.table c.args.tableau.now in
    enters_smaller T c.args.goal c.args.col c.in-Some.other (subst (EntersAt T c.args.goal c.args.col) c.in-Some.is c.requires.best)
    (subst (λ x. zero_ℚ <ℚ x) c.entry.ensures (sign_gt (g.F.OrderedField.meaning c.entry.result) c.num.result c.num.type_inv
    c.num.ensures.value c.if-num-le0.false))
    (subst₂ (λ x y. x ≤ y) c.other-in-Some.ensures c.other.ensures c.if-other.false)

pub returns-in_default : goal.returns-in_default
returns-in_default g c =
    let T = g.T.Tableau.table c.args.tableau.now in
    enters_first T c.args.goal c.args.col (enters_none T c.args.goal c.args.col c.args.best c.requires.best c.in_default.not-Some)
    (subst (λ x. zero_ℚ <ℚ x) c.entry.ensures (sign_gt (g.F.OrderedField.meaning c.entry.result) c.num.result c.num.type_inv
    c.num.ensures.value c.if-num-le0.false))
