use Rattle.std.proofs.Common.{◌-◌, ◌*◌, length}
use Rattle.solve_rounds.specs.Growing.{StaysUnraised}
use Rattle.solve_rounds.proofs.growth.GrownTo.{GrowingTo}
use Rattle.solve_rounds.proofs.growth.passes.Given as goal

abbrev pub invariant-loop : goal.invariant-loop
invariant-loop l = record {
  grown : GrowingTo l.system l.pick l.fn.growing.bounds l.growing;
  stays : StaysUnraised l.fn.growing l.growing;
}

abbrev pub decreases-loop : goal.decreases-loop
decreases-loop l = length l.system.flow.points * length l.system.template - length l.growing.steps.items
