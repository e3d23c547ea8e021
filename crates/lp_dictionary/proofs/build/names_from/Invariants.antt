use Rattle.std.proofs.Common.{◌≡◌, ℕ, ◌+◌, ◌<◌, length, get_or}
use Rattle.lp_dictionary.proofs.build.names_from.Given as goal

abbrev pub invariant-loop-i : goal.invariant-loop-i
invariant-loop-i l = record {
  count : length l.names.items ≡ l.i;
  each : (k : ℕ) → k < l.i → get_or l.names.items k 0 ≡ l.first + k;
}
