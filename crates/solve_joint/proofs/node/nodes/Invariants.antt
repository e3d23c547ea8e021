use Rattle.std.proofs.Common.{◌≡◌, take}
use Rattle.solve_joint.specs.Numbers.{nodes_of}
use Rattle.solve_joint.proofs.node.nodes.Given as goal

abbrev pub invariant-loop-unknown : goal.invariant-loop-unknown
invariant-loop-unknown l = l.nodes.items ≡ nodes_of l.system l.pick (take l.unknown-index l.list)
