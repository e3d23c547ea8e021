use Rattle.std.proofs.Common.{◌≡◌, None}
use Rattle.base_fractions.specs.Operation.{first_wide}
use Rattle.lp_dictionary.specs.Rows.{CombinesRows, rows_operations}
use Rattle.lp_dictionary.proofs.rows.combine_rows.Given as goal

abbrev pub invariant-loop-i : goal.invariant-loop-i
invariant-loop-i g l = record {
  rows : CombinesRows g.F.OrderedField.meaning l.i l.row l.stride l.col l.fn.entries l.entries;
  fits : first_wide g.F.OrderedField.LIMIT (rows_operations g.F.OrderedField.meaning l.fn.entries l.i l.row l.stride l.col) ≡ None;
}
