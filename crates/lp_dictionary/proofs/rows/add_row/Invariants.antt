use Rattle.std.proofs.Common.{◌≡◌, None}
use Rattle.base_fractions.specs.Operation.{first_wide}
use Rattle.lp_dictionary.specs.Formulas.{added_row}
use Rattle.lp_dictionary.specs.PivotOperations.{added_row_operations}
use Rattle.lp_dictionary.specs.Cells.{row_from}
use Rattle.lp_dictionary.specs.Rows.{SetsRow}
use Rattle.lp_dictionary.proofs.rows.add_row.Given as goal

abbrev pub invariant-loop-k : goal.invariant-loop-k
invariant-loop-k g l =
    let a = row_from g.F.OrderedField.meaning l.fn.entries l.start in
    let b = row_from g.F.OrderedField.meaning l.fn.entries l.above in
    let f = g.F.OrderedField.meaning l.factor in
    record {
      row : SetsRow g.F.OrderedField.meaning l.start l.k (added_row a f b l.col) l.fn.entries l.entries;
      fits : first_wide g.F.OrderedField.LIMIT (added_row_operations l.k a f b l.col) ≡ None;
    }
