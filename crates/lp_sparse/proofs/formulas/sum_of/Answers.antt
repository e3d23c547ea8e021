use Rattle.std.proofs.Common.{sym, subst}
use Rattle.base_fractions.specs.Operation.{Answers}
use Rattle.lp_dictionary.specs.Formulas.{added_operations}
use Rattle.lp_sparse.specs.Entries.{or_zero}
use Rattle.lp_sparse.specs.Rows.{merged}
use Rattle.lp_sparse.proofs.merge.SingleEntries.{merged_term}
use Rattle.lp_sparse.proofs.formulas.sum_of.Goals as goal

pub returns-in-None : goal.returns-in-None
returns-in-None g c =
    let m = g.F.OrderedField.meaning in
    let L = g.F.OrderedField.LIMIT in
    let f = m c.args.factor in
    let b = m c.args.above in
    let p = m c.args.product in
    let t = c.args.at_pivot in
    subst (λ x. Answers m L (merged (or_zero m x) f b p t) (added_operations (or_zero m x) f b t) c.term_of.result) (sym c.in-None.is)
    (merged_term L m f b p t c.term_of.result c.term_of.ensures)
