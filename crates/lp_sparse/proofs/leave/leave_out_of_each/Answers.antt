use Rattle.std.proofs.Common.{◌≡◌, ◌<◌, ⊎_elim, set, length, ap, sym, ◌∙◌, arith}
use Rattle.std.proofs.lemmas.Bool.{cases_lt}
use Rattle.lp_sparse.specs.Entries.{left_out}
use Rattle.lp_sparse.specs.Rows.{row_at}
use Rattle.lp_sparse.proofs.rows.RowsAt.{row_read, row_written, row_kept}
use Rattle.lp_sparse.proofs.leave.leave_out_of_each.Goals as goal

pub loop-i-preserved : goal.loop-i-preserved
loop-i-preserved g c =
    let rows = c.loop-i.rows in
    let i = c.loop-i.i in
    let row = c.leave_out.new.row in
    let l : c.loop-i.i < length c.loop-i.rows = omega arith in
    record {
      done = λ k b. ⊎_elim
          (λ a. row_kept rows i k row (λ q. omega (arith, q, a)) ∙ c.loop-i.invariant.done k a)
          (λ a. let q : k ≡ c.loop-i.i = omega (arith, a, b) in
          ap (row_at (set rows i row)) q ∙ row_written rows i row l ∙ c.leave_out.ensures
          ∙ ap (left_out c.args.col) (sym (row_read rows i c.index-rows-i.result l) ∙ c.loop-i.invariant.later i (omega arith)
          ∙ ap (row_at c.args.rows.now) (sym q)))
          (cases_lt k i);
      later = λ k b. row_kept rows i k row (λ q. omega (arith, q, b)) ∙ c.loop-i.invariant.later k (omega (arith, b));
    }
