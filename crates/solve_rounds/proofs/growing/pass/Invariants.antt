use Rattle.std.proofs.Common.{◌*◌, length}
use Rattle.solve_rounds.proofs.growing.PassedTo.{PassedTo}
use Rattle.solve_rounds.proofs.growing.pass.Given as goal

abbrev pub invariant-loop-point : goal.invariant-loop-point
invariant-loop-point l = PassedTo l.system l.pick 0 (l.point * length l.system.template) l.initial.growing l.growing l.told
