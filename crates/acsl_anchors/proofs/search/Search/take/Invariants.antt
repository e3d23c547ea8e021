use Rattle.std.proofs.Common.{◌≡◌, length}
use Rattle.acsl_anchors.specs.Machine.{step}
use Rattle.acsl_anchors.specs.Search.{scope_in, stack_of}
use Rattle.acsl_anchors.proofs.search.Search.take.Given as goal

abbrev pub invariant-loop-goal : goal.invariant-loop-goal
invariant-loop-goal l =
    (step (stack_of l.fn.self.goals.items) l.part l.at (scope_in l.fn.self) l.fn.self.anchors.items
    ≡ step (stack_of l.self.goals.items) l.part l.at (scope_in l.self) l.self.anchors.items)
    × (length l.self.variables.items ≡ length l.fn.self.variables.items)

abbrev pub decreases-loop-goal : goal.decreases-loop-goal
decreases-loop-goal l = length l.self.goals.items
