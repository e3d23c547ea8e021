use Rattle.std.proofs.Common.{◌≡◌, ℕ, length}
use Rattle.base_numbers.specs.Rational.{zero_ℚ}
use Rattle.lp_dictionary.specs.Cells.{cell}
use Rattle.lp_simplex.proofs.read.zeros.Given as goal

abbrev pub invariant-loop-k : goal.invariant-loop-k
invariant-loop-k g l = record {
  count : length l.values.items ≡ l._k;
  each : (j : ℕ) → cell g.F.OrderedField.meaning l.values.items j ≡ zero_ℚ;
}
