use Rattle.std.proofs.Common.{◌≡◌, ℕ, ◌<◌, ◌≤◌}
use Rattle.lp_sparse.specs.Entries.{left_out}
use Rattle.lp_sparse.specs.Rows.{row_at}
use Rattle.lp_sparse.proofs.leave.leave_out_of_each.Given as goal

abbrev pub invariant-loop-i : goal.invariant-loop-i
invariant-loop-i g l = record {
  done : (k : ℕ) → k < l.i → row_at l.rows k ≡ left_out l.col (row_at l.fn.rows k);
  later : (k : ℕ) → l.i ≤ k → row_at l.rows k ≡ row_at l.fn.rows k;
}
