use Rattle.std.proofs.Common.{◌≡◌, length}
use Rattle.solve_guess.proofs.reached.Reached.go_to.Given as goal

abbrev pub invariant-loop-place : goal.invariant-loop-place
invariant-loop-place l = length l.self.vector ≡ length l.asked.bounds.now
