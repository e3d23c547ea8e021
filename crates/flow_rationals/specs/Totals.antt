-- What the code keeps of a sum's parts, and what it asks of them.
use Rattle.std.specs.Prelude.{◌≡◌, ◌<◌, ℕ, ℤ, pos, List, [], ◌∷◌, length, slice_index_or}
use Rattle.flow_rationals.specs.declared.reading.written.Part.{Part}
use Rattle.flow_rationals.specs.EquFaults.{below_faults}
use Rattle.flow_rationals.specs.WrittenSums.{part_below, Amount, total}

-- no second number is 0
abbrev pub NoZeros : List Part → Type 0
NoZeros [] = Unit {0}
NoZeros (p ∷ ps) = (below_faults (part_below p) ≡ []) × NoZeros ps

-- Each place has what the amounts add up to for it.
pub record AreTotals (totals : List ℤ) (amounts : List Amount) : Type 0 where
  pub places : length totals ≡ 12
  pub each : (k : ℕ) → k < 12 → slice_index_or totals k (pos 0) ≡ total k amounts
