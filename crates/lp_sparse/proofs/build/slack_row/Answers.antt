use Rattle.std.proofs.Common.{map, sym, ◌∙◌, subst}
use Rattle.std.proofs.lemmas.List.{length-map}
use Rattle.base_numbers.specs.Rational.{one_ℚ, neg_ℚ}
use Rattle.lp_dictionary.specs.Build.{slack_entries}
use Rattle.lp_dictionary.specs.Keeps.{Lists}
use Rattle.lp_sparse.proofs.build.Listing.{lists_end}
use Rattle.lp_sparse.proofs.build.slack_row.Goals as goal

pub returns : goal.returns
returns g c =
    let m = g.F.OrderedField.meaning in
    let row = c.args.row.now in
    subst (Lists m (slack_entries c.args.auxiliary row.coeffs (m row.side))) (sym c.in_ok-push_end.ensures)
    (lists_end m c.args.auxiliary (map neg_ℚ row.coeffs) c.in_ok-entries.entries.items c.len-cols.result c.one.result row.side one_ℚ
    (m row.side) c.in_ok-entries.ensures (c.len-cols.ensures ∙ sym (length-map row.coeffs neg_ℚ)) c.one.ensures.value (λ _. m row.side))
