use Rattle.std.proofs.Common.{take}
use Rattle.solve_joint.specs.Searches.{AreSteps}
use Rattle.solve_joint.proofs.closure.steps.Given as goal

abbrev pub invariant-loop-node : goal.invariant-loop-node
invariant-loop-node l = AreSteps l.points (take l.node-index l.nodes) l.steps.items
