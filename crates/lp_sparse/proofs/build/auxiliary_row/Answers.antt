use Rattle.std.proofs.Common.{true, [], ap, sym, ◌∙◌, subst}
use Rattle.base_numbers.specs.Rational.{zero_ℚ, one_ℚ, neg_ℚ}
use Rattle.base_numbers.specs.Vector.{zeros}
use Rattle.lp_dictionary.specs.Build.{auxiliary_entries}
use Rattle.base_numbers.proofs.vector.Vectors.{length-zeros}
use Rattle.lp_sparse.specs.Build.{end_pushed}
use Rattle.lp_dictionary.specs.Keeps.{Lists}
use Rattle.lp_dictionary.proofs.kept.Listing.{lists_zeros}
use Rattle.lp_sparse.proofs.build.Listing.{lists_end}
use Rattle.lp_sparse.proofs.build.auxiliary_row.Goals as goal

pub returns : goal.returns
returns g c =
    let m = g.F.OrderedField.meaning in
    let w = c.args.cols in
    let pushed = c.in_ok-push_end.ensures ∙ ap (λ es. end_pushed m true es w c.negate.result c.zero.result) c.new-entries.ensures.items in
    subst (Lists m (auxiliary_entries w)) (sym pushed)
    (lists_end m true (zeros w) [] w c.negate.result c.zero.result (neg_ℚ one_ℚ) zero_ℚ (lists_zeros m w) (sym (length-zeros w))
    (c.negate.ensures.value ∙ ap neg_ℚ c.one.ensures.value) c.zero.ensures.value)
