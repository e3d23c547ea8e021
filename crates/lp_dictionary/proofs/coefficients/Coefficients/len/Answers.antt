use Rattle.std.proofs.Common.{length, ap, sym, ◌∙◌}
use Rattle.lp_dictionary.proofs.kept.Listing.{length-spread}
use Rattle.lp_dictionary.proofs.coefficients.Coefficients.len.Goals as goal

pub returns : goal.returns
returns g c =
    sym (length-spread g.F.OrderedField.meaning c.self.inside.length c.self.inside.entries.items) ∙ ap length c.self.view_is
