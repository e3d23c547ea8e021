use Rattle.std.proofs.Common.{◌≡◌, length}
use Rattle.source_packs.specs.Machine.{step}
use Rattle.source_packs.specs.Search.{book_in, stack_of}
use Rattle.source_packs.proofs.search.Search.take.Given as goal

abbrev pub invariant-loop-goal : goal.invariant-loop-goal
invariant-loop-goal l =
    step (stack_of l.fn.self.goals.items) l.part (book_in l.fn.self) ≡ step (stack_of l.self.goals.items) l.part (book_in l.self)

abbrev pub decreases-loop-goal : goal.decreases-loop-goal
decreases-loop-goal l = length l.self.goals.items
