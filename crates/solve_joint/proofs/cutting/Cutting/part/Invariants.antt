use Rattle.std.proofs.Common.{◌≡◌, map, take}
use Rattle.solve_joint.specs.Classes.{node_at}
use Rattle.solve_joint.proofs.cutting.Cutting.part.Given as goal

abbrev pub invariant-loop-member : goal.invariant-loop-member
invariant-loop-member l = l.list.items ≡ map (λ i. (node_at l.self.nodes.now i).unknown) (take l.member-index l.members)
