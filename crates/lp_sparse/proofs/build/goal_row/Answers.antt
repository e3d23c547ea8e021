use Rattle.std.proofs.Common.{sym, subst}
use Rattle.base_numbers.specs.Rational.{zero_ℚ}
use Rattle.lp_dictionary.specs.Build.{goal_entries}
use Rattle.lp_dictionary.specs.Keeps.{Lists}
use Rattle.lp_sparse.proofs.build.Listing.{signed_none, lists_end}
use Rattle.lp_sparse.proofs.build.goal_row.Goals as goal

pub returns : goal.returns
returns g c =
    let m = g.F.OrderedField.meaning in
    let u = c.args.goal.now in
    let kept = subst (λ xs. Lists m xs c.in_ok-entries.entries.items) (signed_none u) c.in_ok-entries.ensures in
    subst (Lists m (goal_entries c.args.auxiliary u)) (sym c.in_ok-push_end.ensures)
    (lists_end m c.args.auxiliary u c.in_ok-entries.entries.items c.len-cols.result c.zero.result c.zero-2.result zero_ℚ zero_ℚ kept
    c.len-cols.ensures c.zero.ensures.value c.zero-2.ensures.value)
