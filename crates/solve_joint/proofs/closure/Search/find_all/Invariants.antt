use Rattle.std.proofs.Common.{take}
use Rattle.solve_joint.specs.Searches.{AreFound}
use Rattle.solve_joint.proofs.closure.Search.find_all.Given as goal

abbrev pub invariant-loop-point : goal.invariant-loop-point
invariant-loop-point l =
    AreFound (take l.point-index l.points) l.initial.self.found l.initial.self.open.items l.self.found l.self.open.items
