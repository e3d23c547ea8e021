use Rattle.std.proofs.Common.{◌≡◌, ◌≤◌, ◌++◌, length, take, drop}
use Rattle.lp_sparse.specs.Entries.{left_out}
use Rattle.lp_sparse.proofs.leave.leave_out.Given as goal

abbrev pub invariant-loop-i : goal.invariant-loop-i
invariant-loop-i g l = record {
  order : l.kept ≤ l.i;
  long : length l.row.entries.items ≡ length l.fn.row.entries.items;
  rest : drop l.i l.row.entries.items ≡ drop l.i l.fn.row.entries.items;
  done : take l.kept l.row.entries.items ++ left_out l.col (drop l.i l.fn.row.entries.items) ≡ left_out l.col l.fn.row.entries.items;
}
