use Rattle.std.proofs.Common.{ap, sym, ◌∙◌}
use Rattle.lp_dictionary.proofs.kept.Listing.{get_spread, past_spread}
use Rattle.lp_dictionary.specs.Entries.{value_at}
use Rattle.base_numbers.specs.Rational.{zero_ℚ}
use Rattle.std.proofs.Common.{get_or}
use Rattle.lp_dictionary.proofs.coefficients.Coefficients.at.Goals as goal

pub returns-then-place-self : goal.returns-then-place-self
returns-then-place-self g c =
    let m = g.F.OrderedField.meaning in
    c.value_in.ensures ∙ ap (λ es. value_at m es c.args.place) c.deref.ensures.value
    ∙ sym (get_spread m c.self.inside.length c.self.inside.entries.items c.args.place c.if-place-self.true)
    ∙ ap (λ xs. get_or xs c.args.place zero_ℚ) c.self.view_is

pub returns-else-place-self : goal.returns-else-place-self
returns-else-place-self g c =
    c.zero.ensures.value
    ∙ sym (past_spread g.F.OrderedField.meaning c.self.inside.length c.self.inside.entries.items c.args.place c.if-place-self.false)
    ∙ ap (λ xs. get_or xs c.args.place zero_ℚ) c.self.view_is
