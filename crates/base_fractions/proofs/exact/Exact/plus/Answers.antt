use Rattle.std.proofs.Common.{FitsSigned, w64, ap₂, ◌∙◌, rules}
use Rattle.base_numbers.specs.Rational.{◌+ℚ◌}
use Rattle.base_fractions.proofs.exact.Kept.{answered}
use Rattle.base_fractions.proofs.exact.Wholes.{whole_reduced, whole_sum, whole_sum_read}
use Rattle.base_fractions.proofs.exact.Exact.plus.Goals as goal

pub answer-requires : goal.answer-requires
answer-requires g c = whole_reduced _

pub returns-then-right-eq1 : goal.returns-then-right-eq1
returns-then-right-eq1 g c =
    let f : FitsSigned w64 c.self.inside.num = search rules in
    let h : FitsSigned w64 c.right.inside.num = search rules in
    answered g.L.Limit.LIMIT _ c.answer.result
    (whole_sum c.self.inside.num c.right.inside.num _ c.self.inside.den c.right.inside.den c.if-self-eq1.true c.if-right-eq1.true
    (whole_sum_read c.self.inside.num c.right.inside.num f h)
    ∙ ap₂ (λ x y. x +ℚ y) c.self.view_is c.right.view_is)
    c.answer.ensures
