use Rattle.std.proofs.Common.{sym, subst}
use Rattle.lp_dictionary.specs.Keeps.{Lists}
use Rattle.lp_dictionary.proofs.kept.Listing.{lists_spread}
use Rattle.lp_dictionary.proofs.coefficients.Coefficients.entries.Goals as goal

pub returns : goal.returns
returns g c =
    let m = g.F.OrderedField.meaning in
    let es = c.self.inside.entries.items in
    subst (Lists m c.args.self.now) (sym c.as_slice.ensures.value)
    (subst (λ xs. Lists m xs es) c.self.view_is
    (lists_spread m c.self.inside.length es c.self.invariant.0 c.self.invariant.1))
