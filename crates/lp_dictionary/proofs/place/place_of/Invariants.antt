use Rattle.std.proofs.Common.{ℕ, ◌-◌, ◌<◌, ◌≤◌, length}
use Rattle.lp_dictionary.specs.Entries.{col_at}
use Rattle.lp_dictionary.proofs.place.place_of.Given as goal

abbrev pub invariant-loop-low : goal.invariant-loop-low
invariant-loop-low g l = record {
  order : l.low ≤ l.high;
  within : l.high ≤ length l.entries;
  before : (k : ℕ) → k < l.low → col_at l.entries k < l.col;
  behind : (k : ℕ) → l.high ≤ k → k < length l.entries → l.col ≤ col_at l.entries k;
}

abbrev pub decreases-loop-low : goal.decreases-loop-low
decreases-loop-low g l = l.high - l.low
