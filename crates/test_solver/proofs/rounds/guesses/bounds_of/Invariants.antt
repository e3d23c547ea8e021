use Rattle.std.proofs.Common.{◌≡◌, length}
use Rattle.test_solver.proofs.rounds.guesses.bounds_of.Given as goal

abbrev pub invariant-loop-number : goal.invariant-loop-number
invariant-loop-number l = length l.list.items ≡ l.number-index
