use Rattle.std.proofs.Common.{◌≡◌, map, take}
use Rattle.solve_joint.specs.Nearby.{number_at, renumbered}
use Rattle.solve_joint.proofs.nearby.renumbered.Given as goal

abbrev pub invariant-loop-node : goal.invariant-loop-node
invariant-loop-node l = l.near.items ≡ map (renumbered (number_at l.initial.numbers)) (take l.node-index l.nodes)
