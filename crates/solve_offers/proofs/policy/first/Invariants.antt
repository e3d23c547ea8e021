use Rattle.std.proofs.Common.{ℕ, ◌<◌, map, get_or}
use Rattle.base_numbers.specs.Extended.{neg_inf, ◌≤ᴱ◌}
use Rattle.base_fractions.specs.Extended.{extended}
use Rattle.solve_offers.proofs.policy.first.Given as goal

abbrev pub invariant-loop-k : goal.invariant-loop-k
invariant-loop-k l = (j : ℕ) → j < l.k → get_or (map extended l.values) j neg_inf ≤ᴱ extended l.offer.bound
