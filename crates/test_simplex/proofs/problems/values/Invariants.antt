use Rattle.std.proofs.Common.{◌≡◌, length}
use Rattle.test_simplex.proofs.problems.values.Given as goal

abbrev pub invariant-loop-number : goal.invariant-loop-number
invariant-loop-number g l = length l.values ≡ l.number-index
