use Rattle.std.proofs.Common.{FitsSigned, w64, rules}
use mir.Syntax.{w128}
use Rattle.base_fractions.proofs.exact.Kept.{cmp_is}
use Rattle.base_fractions.proofs.exact.compare.ExactOrd.cmp.Goals as goal

pub returns : goal.returns
returns g c =
    let f : FitsSigned w64 c.self.inside.num = search rules in
    let h : FitsSigned w64 c.other.inside.num = search rules in
    let x : FitsSigned w128 c.wide_product.result = search rules in
    let y : FitsSigned w128 c.wide_product-2.result = search rules in
    cmp_is c.self.invariant c.self.view_is c.other.invariant c.other.view_is f h x y c.wide_product.ensures.value
    c.wide_product-2.ensures.value c.cmp.ensures
