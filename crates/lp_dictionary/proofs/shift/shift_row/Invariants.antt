use Rattle.lp_theory.specs.Table.{skip}
use Rattle.lp_dictionary.specs.Cells.{row_from}
use Rattle.lp_dictionary.specs.Rows.{SetsRow}
use Rattle.lp_dictionary.proofs.shift.shift_row.Given as goal

abbrev pub invariant-loop-k : goal.invariant-loop-k
invariant-loop-k g l =
    SetsRow g.F.OrderedField.meaning l.to l.k (λ k. row_from g.F.OrderedField.meaning l.fn.entries l.from (skip l.col k)) l.fn.entries
    l.entries
