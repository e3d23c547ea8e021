use Rattle.std.proofs.Common.{eqb, ap, sym, ◌∙◌}
use Rattle.base_fractions.specs.Operation.{first_wide}
use Rattle.lp_dictionary.specs.Formulas.{added_operations}
use Rattle.lp_sparse.specs.Entries.{or_zero}
use Rattle.lp_sparse.specs.Rows.{merged}
use Rattle.lp_sparse.proofs.rows.Answering.{pushed_value}
use Rattle.lp_sparse.proofs.merge.merge_entry.Goals as goal

pub returns-clause-merged : goal.returns-clause-merged
returns-clause-merged g c =
    let m = g.F.OrderedField.meaning in
    let L = g.F.OrderedField.LIMIT in
    let f = m c.args.factor in
    let p = m c.args.product in
    let b = m c.args.entry.value in
    let t = eqb c.args.entry.col c.args.col in
    let a = or_zero m c.value_from-value.result.0 in
    let e = c.value_from-value.ensures.value in
    let v = pushed_value m L (merged a f b p t) (added_operations a f b t) c.args.merged.now.items c.push_answer.new.entries.items
    c.args.entry.col c.sum_of-sum.result c.sum_of-sum.ensures (c.in_ok-push_answer.ensures.pushed) in
    record {
      value = v.0;
      value_is = v.1 ∙ ap (λ x. merged x f b p t) e;
      fits = ap (λ x. first_wide L (added_operations x f b t)) (sym e) ∙ v.2;
      appended = v.3;
      left = c.value_from-value.ensures.rest;
    }
