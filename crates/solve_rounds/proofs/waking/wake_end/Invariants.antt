use Rattle.solve_rounds.proofs.waking.Woken.{WokenRows}
use Rattle.solve_rounds.proofs.waking.wake_end.Given as goal

abbrev pub invariant-loop-row : goal.invariant-loop-row
invariant-loop-row l = WokenRows l.system l.pick l.edge l.point l.row l.initial.growing l.growing
