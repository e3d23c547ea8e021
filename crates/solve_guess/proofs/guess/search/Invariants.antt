use Rattle.std.proofs.Common.{◌≡◌, length}
use Rattle.solve_guess.proofs.guess.search.Given as goal

abbrev pub invariant-loop-vector : goal.invariant-loop-vector
invariant-loop-vector l = length l.reached.vector ≡ length l.asked.bounds.now
