use Rattle.std.proofs.Common.{ℕ, ◌≤◌}
use Rattle.base_numbers.specs.Extended.{◌≤ᴱ◌}
use Rattle.base_fractions.specs.Extended.{extended}
use Rattle.solve_offers.proofs.offers.Offered.{value}
use Rattle.test_solver.proofs.rounds.offers.last.Given as goal

abbrev pub invariant-loop-k : goal.invariant-loop-k
invariant-loop-k l = (j : ℕ) → l.k ≤ j → value l.values j ≤ᴱ extended l.offer.bound
