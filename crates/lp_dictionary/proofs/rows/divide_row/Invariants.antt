use Rattle.std.proofs.Common.{◌≡◌, None}
use Rattle.base_fractions.specs.Operation.{first_wide}
use Rattle.lp_dictionary.specs.Formulas.{divided_row}
use Rattle.lp_dictionary.specs.PivotOperations.{division_row_operations}
use Rattle.lp_dictionary.specs.Cells.{row_from}
use Rattle.lp_dictionary.specs.Rows.{SetsRow}
use Rattle.lp_dictionary.proofs.rows.divide_row.Given as goal

abbrev pub invariant-loop-k : goal.invariant-loop-k
invariant-loop-k g l =
    let a = row_from g.F.OrderedField.meaning l.fn.entries l.start in
    record {
      row : SetsRow g.F.OrderedField.meaning l.start l.k (divided_row a l.col) l.fn.entries l.entries;
      fits : first_wide g.F.OrderedField.LIMIT (division_row_operations l.k a l.col) ≡ None;
    }
