use Rattle.std.proofs.Common.{◌≡◌, ◌<◌, ℕ, length, get_or}
use Rattle.base_numbers.specs.Extended.{neg_inf}
use Rattle.cert_checker.specs.StepEvents.{allowance}
use Rattle.cert_checker.proofs.new_bounds.free_rates.Given as goal

abbrev pub invariant-loop-u : goal.invariant-loop-u
invariant-loop-u l = record {
  size : length l.rates ≡ length l.base;
  rates : (j : ℕ) → j < l.u → get_or l.rates j neg_inf ≡ allowance (get_or l.base j neg_inf);
}
