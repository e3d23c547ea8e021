use Rattle.solve_rounds.proofs.quiet_marks.KnownQuiet.{PointsMarked}
use Rattle.solve_rounds.proofs.quiet_marks.quiet_unknowns.Given as goal

abbrev pub invariant-loop-point : goal.invariant-loop-point
invariant-loop-point l = PointsMarked l.system l.bounds l.pick l.point l.marks.items
