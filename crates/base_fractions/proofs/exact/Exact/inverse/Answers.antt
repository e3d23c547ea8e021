use Rattle.std.proofs.Common.{FitsSigned, w64, rules}
use Rattle.base_fractions.proofs.exact.Kept.{inv_num, inv_kept, inv_made}
use Rattle.base_fractions.proofs.exact.Exact.inverse.Goals as goal

pub invariant_of-result : goal.invariant_of-result
invariant_of-result g c =
    let f : FitsSigned w64 c.self.inside.num = search rules in
    let k : FitsSigned w64 c.with_sign.result = search rules in
    inv_kept g.L.Limit.limit_high c.self.invariant c.self.view_is f c.requires
    (inv_num g.L.Limit.limit_high c.self.invariant c.self.view_is f c.requires k c.with_sign.ensures) c.unsigned_abs.ensures.value

pub returns : goal.returns
returns g c =
    let f : FitsSigned w64 c.self.inside.num = search rules in
    let k : FitsSigned w64 c.with_sign.result = search rules in
    inv_made g.L.Limit.limit_high c.self.invariant c.self.view_is f c.requires
    (inv_num g.L.Limit.limit_high c.self.invariant c.self.view_is f c.requires k c.with_sign.ensures) c.unsigned_abs.ensures.value
