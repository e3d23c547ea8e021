use Rattle.std.proofs.Common.{◌≡◌, ◌<◌, ℕ, length, get_or}
use Rattle.base_numbers.specs.Extended.{neg_inf}
use Rattle.cert_checker.specs.Stands.{start_at}
use Rattle.cert_checker.proofs.steps.restart.Given as goal

abbrev pub invariant-loop-u : goal.invariant-loop-u
invariant-loop-u l = record {
  size : length l.bounds ≡ length l.initial.bounds;
  start : (j : ℕ) → j < l.u → get_or l.bounds j neg_inf ≡ start_at l.rows j;
}
