use Rattle.std.proofs.Common.{nat_abs, ap, sym, ◌∙◌}
use Rattle.lp_sparse.proofs.formulas.Units.{one_by_parts, one_read}
use Rattle.lp_sparse.proofs.unit.is_one.Goals as goal

pub returns : goal.returns
returns g c =
    let n = one_read c.num.result c.num.type_inv c.if-num-ne1.false in
    let d = one_read c.den.result c.den.type_inv c.if-den-ne1.false in
    λ t. one_by_parts (g.F.OrderedField.meaning c.args.value) (sym c.num.ensures.value ∙ n) (ap nat_abs (sym c.den.ensures.value ∙ d))
