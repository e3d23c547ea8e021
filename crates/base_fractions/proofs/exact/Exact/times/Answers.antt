use Rattle.std.proofs.Common.{FitsSigned, w64, ap₂, ◌∙◌, ◌*ℤ◌, rules}
use mir.Syntax.{w128}
use Rattle.std.proofs.lemmas.Int.{to_z-of_z}
use Rattle.base_numbers.specs.Rational.{◌*ℚ◌}
use Rattle.base_fractions.proofs.exact.Kept.{answered, small_num}
use Rattle.base_fractions.proofs.exact.Wholes.{whole_reduced, whole_product}
use Rattle.base_fractions.proofs.exact.Exact.times.Goals as goal

pub signed_product-requires-clause-left : goal.signed_product-requires-clause-left
signed_product-requires-clause-left g c =
    let f : FitsSigned w64 c.self.inside.num = search rules in
    small_num c.self.invariant c.self.view_is f g.L.Limit.limit_high

pub signed_product-requires-clause-right : goal.signed_product-requires-clause-right
signed_product-requires-clause-right g c =
    let h : FitsSigned w64 c.right.inside.num = search rules in
    small_num c.right.invariant c.right.view_is h g.L.Limit.limit_high

pub answer-requires : goal.answer-requires
answer-requires g c = whole_reduced _

pub returns-then-right-eq1 : goal.returns-then-right-eq1
returns-then-right-eq1 g c =
    let f : FitsSigned w64 c.self.inside.num = search rules in
    let h : FitsSigned w64 c.right.inside.num = search rules in
    answered g.L.Limit.LIMIT _ c.answer.result
    (whole_product c.self.inside.num c.right.inside.num _ c.self.inside.den c.right.inside.den c.if-self-eq1.true c.if-right-eq1.true
    (to_z-of_z w128 c.signed_product.result record { sfits = c.signed_product.type_inv } ∙ c.signed_product.ensures
    ∙ ap₂ (λ x y. x *ℤ y) (to_z-of_z w64 c.self.inside.num f) (to_z-of_z w64 c.right.inside.num h))
    ∙ ap₂ (λ x y. x *ℚ y) c.self.view_is c.right.view_is)
    c.answer.ensures
