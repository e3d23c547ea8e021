use Rattle.std.proofs.Common.{◌≡◌, ℕ, ◌<◌, false, get_or}
use Rattle.base_facts.specs.Elements.{In}
use Rattle.solve_joint.specs.Classes.{node_at, standing_at}
use Rattle.solve_joint.specs.Waits.{is_outside}
use Rattle.solve_joint.proofs.cutting.Cutting.blocker.Given as goal

abbrev pub invariant-loop-member : goal.invariant-loop-member
invariant-loop-member l = (k i : ℕ) → k < l.member-index
    → In (standing_at l.self.nodes.now (node_at l.self.nodes.now (get_or l.member-items k 0)).source) i
    → is_outside l.self.classes.items l.gone l.head i ≡ false
