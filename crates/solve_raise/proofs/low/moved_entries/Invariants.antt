use Rattle.solve_raise.proofs.low.Entries.{IsMoved}
use Rattle.solve_raise.proofs.low.moved_entries.Given as goal

abbrev pub invariant-loop-i : goal.invariant-loop-i
invariant-loop-i l = IsMoved l.times l.entries l.slopes l.i l.list.items
