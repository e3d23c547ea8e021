use Rattle.std.proofs.Common.{◌≡◌, ◌*◌, false, length}
use Rattle.solve_rounds.specs.Growing.{AreOver}
use Rattle.solve_rounds.proofs.growing.PassedTo.{PassedTo}
use Rattle.solve_rounds.proofs.growing.test_point.Given as goal

abbrev pub invariant-loop-row : goal.invariant-loop-row
invariant-loop-row l = record {
  passed : PassedTo l.system l.pick (l.point * length l.system.template) l.row l.initial.growing l.growing l.told;
  over : l.told ≡ false → AreOver l.system l.pick (l.point * length l.system.template) l.row l.initial.growing l.growing;
}
