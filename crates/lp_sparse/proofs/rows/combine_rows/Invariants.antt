use Rattle.std.proofs.Common.{◌≡◌, ℕ, ◌≤◌, None}
use Rattle.base_fractions.specs.Operation.{first_wide}
use Rattle.lp_dictionary.specs.Entries.{value_at, Rises}
use Rattle.lp_sparse.specs.Rows.{row_at, numbers, EachRises, NoZeros, CombinesRows, rows_operations}
use Rattle.lp_sparse.proofs.rows.combine_rows.Given as goal

abbrev pub invariant-loop-i : goal.invariant-loop-i
invariant-loop-i g l =
    let m = g.F.OrderedField.meaning in
    record {
      later : (k : ℕ) → l.i ≤ k → row_at l.rows k ≡ row_at l.fn.rows k;
      combined : (n : ℕ) → EachRises n l.fn.rows → Rises 0 n l.above → CombinesRows m l.i l.row n l.col l.above l.fn.rows l.rows;
      no_zero : NoZeros m l.fn.rows → NoZeros m l.rows;
      fits : (n : ℕ) → EachRises n l.fn.rows → Rises 0 n l.above → first_wide g.F.OrderedField.LIMIT
          (rows_operations (numbers m l.fn.rows) (value_at m l.above) l.i l.row n l.col) ≡ None;
    }
