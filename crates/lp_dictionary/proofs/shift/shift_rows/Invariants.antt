use Rattle.lp_dictionary.specs.Rows.{ShiftsRows}
use Rattle.lp_dictionary.proofs.shift.shift_rows.Given as goal

abbrev pub invariant-loop-i : goal.invariant-loop-i
invariant-loop-i g l = ShiftsRows g.F.OrderedField.meaning l.i l.row l.stride l.col l.fn.entries l.entries
