use Rattle.std.proofs.Common.{FitsSigned, w64, subst, sym, rules}
use Rattle.base_fractions.specs.Fits.{Fits}
use Rattle.base_fractions.proofs.exact.Kept.{neg_kept, neg_made, neg_fits}
use Rattle.base_fractions.proofs.exact.Exact.negate.Goals as goal

pub invariant_of-result : goal.invariant_of-result
invariant_of-result g c =
    let f : FitsSigned w64 c.self.inside.num = search rules in
    neg_kept g.L.Limit.limit_high c.self.invariant c.self.view_is f

pub returns-clause-value : goal.returns-clause-value
returns-clause-value g c =
    let f : FitsSigned w64 c.self.inside.num = search rules in
    neg_made g.L.Limit.limit_high c.self.invariant c.self.view_is f

pub returns-clause-fits : goal.returns-clause-fits
returns-clause-fits g c =
    let f : FitsSigned w64 c.self.inside.num = search rules in
    subst (λ q. Fits g.L.Limit.LIMIT q) (sym (neg_made g.L.Limit.limit_high c.self.invariant c.self.view_is f))
    (neg_fits g.L.Limit.limit_high c.self.invariant c.self.view_is f)
