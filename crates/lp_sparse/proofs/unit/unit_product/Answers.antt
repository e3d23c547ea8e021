use Rattle.std.proofs.Common.{◌∙◌, subst}
use Rattle.lp_sparse.specs.Units.{IsUnitBy}
use Rattle.lp_sparse.proofs.formulas.Units.{times_one, times_negated}
use Rattle.lp_sparse.proofs.unit.unit_product.Goals as goal

pub returns-then-negated-clause-value : goal.returns-then-negated-clause-value
returns-then-negated-clause-value g c =
    let m = g.F.OrderedField.meaning in
    c.negate.ensures.value ∙ times_negated (m c.args.factor) (m c.args.value)
    (subst (IsUnitBy (m c.args.factor)) c.if-negated.true c.requires)

pub returns-clause-value : goal.returns-clause-value
returns-clause-value g c =
    let m = g.F.OrderedField.meaning in
    times_one (m c.args.factor) (m c.args.value) (subst (IsUnitBy (m c.args.factor)) c.if-negated.false c.requires)
