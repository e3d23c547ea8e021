use Rattle.std.proofs.Common.{ℕ, ◌<◌}
use Rattle.base_numbers.specs.Extended.{◌≤ᴱ◌}
use Rattle.base_fractions.specs.Extended.{extended}
use Rattle.solve_offers.proofs.offers.Offered.{value}
use Rattle.solve_offers.proofs.offer.Offer.some_exceeds.Given as goal

abbrev pub invariant-loop-value : goal.invariant-loop-value
invariant-loop-value l = (j : ℕ) → j < l.value-index → value l.value-items j ≤ᴱ extended l.self.bound
