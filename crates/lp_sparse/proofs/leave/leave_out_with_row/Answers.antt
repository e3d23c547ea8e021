use Rattle.std.proofs.Common.{◌≡◌, ◌<◌, length, ap, ◌∙◌, arith}
use Rattle.std.specs.Prelude.{remove}
use Rattle.std.proofs.lemmas.List.{with_items_is}
use Rattle.lp_theory.specs.Table.{skip}
use Rattle.lp_sparse.specs.Entries.{left_out}
use Rattle.lp_sparse.specs.Rows.{row_at}
use Rattle.lp_sparse.proofs.entries.Leaving.{row_removed}
use Rattle.lp_sparse.proofs.leave.leave_out_with_row.Goals as goal

pub returns-clause-left : goal.returns-clause-left
returns-clause-left g c = λ i.
    let ys = c.leave_out_of_each.new.rows in
    let rows = c.args.rows.now in
    let long : length c.leave_out_of_each.new.rows ≡ c.args.rows.now.len = omega arith in
    let within : c.args.row < length c.leave_out_of_each.new.rows = omega (arith, c.requires) in
    let at = skip c.args.row i in
    ap (λ xs. row_at xs i) (c.remove.ensures.items ∙ ap (λ xs. remove xs c.args.row) (with_items_is rows ys long))
    ∙ row_removed ys c.args.row i within ∙ c.leave_out_of_each.ensures at
    ∙ ap (λ xs. left_out c.args.col (row_at xs at)) c.deref_mut.ensures.value
