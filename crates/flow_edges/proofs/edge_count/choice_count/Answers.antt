use Rattle.std.proofs.Common.{true, false, ◌*◌}
use Rattle.lang_tree.specs.View.{condition_of}
use Rattle.flow_edges.specs.Counts.{case_count}
use Rattle.flow_edges.proofs.count.Counting.{sum_counted, product_counted}
use Rattle.flow_edges.proofs.edge_count.choice_count.Goals as goal

pub returns-clause-count : goal.returns-clause-count
returns-clause-count c = λ m n p q.
    let d = condition_of c.args.cond.now in
    sum_counted _ _ (case_count true d * m) (case_count false d * n) _
    (product_counted _ _ (case_count true d) m _ c.case_count.ensures p c.product.ensures)
    (product_counted _ _ (case_count false d) n _ c.case_count-2.ensures q c.product-2.ensures) c.sum.ensures
