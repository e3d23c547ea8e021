use Rattle.std.proofs.Common.{ℕ, drop}
use Rattle.lp_dictionary.specs.Entries.{value_at, Rises, HasNoZero}
use Rattle.lp_sparse.proofs.rows.Dividing.{Dividing}
use Rattle.lp_sparse.proofs.rows.divide_row.Given as goal

abbrev pub invariant-loop-i : goal.invariant-loop-i
invariant-loop-i g l =
    let m = g.F.OrderedField.meaning in
    record {
      no_zero : HasNoZero m l.divided.items;
      dividing : (n : ℕ) → Rises 0 n l.entries → (r : ℕ) × Dividing m g.F.OrderedField.LIMIT (value_at m l.entries) l.col n r
          (drop l.i l.entries) l.divided.items;
    }
