use Rattle.std.proofs.Common.{◌++◌, map, ap, ◌∙◌}
use Rattle.std.proofs.lemmas.List.{map-id}
use Rattle.lp_dictionary.proofs.build.push_coefficients.Goals as goal

pub returns : goal.returns
returns g c =
    c.in_ok-push_spread.ensures ∙ ap (λ xs. map g.F.OrderedField.meaning c.args.entries.now.items ++ xs) (map-id c.args.coefficients.now)
