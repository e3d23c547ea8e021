use Rattle.solve_rounds.proofs.quiet_marks.KnownQuiet.{RowsMarked}
use Rattle.solve_rounds.proofs.quiet_marks.mark_point.Given as goal

abbrev pub invariant-loop-row : goal.invariant-loop-row
invariant-loop-row l = RowsMarked l.system l.bounds l.pick l.point l.row l.initial.marks l.marks
