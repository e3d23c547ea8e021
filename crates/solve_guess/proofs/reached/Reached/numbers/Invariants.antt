use Rattle.std.proofs.Common.{◌≡◌, length}
use Rattle.solve_guess.proofs.reached.Reached.numbers.Given as goal

abbrev pub invariant-loop-unknown : goal.invariant-loop-unknown
invariant-loop-unknown l = length l.numbers.items ≡ l.unknown-index
