use Rattle.std.proofs.Common.{◌≡◌, ◌≤◌, ◌+◌, ℕ, List, ℤ, length, drop}
use Rattle.base_numbers.specs.Rational.{ℚ}
use Rattle.theory_transformers.specs.Spread.{skip}
use Rattle.solve_transformer.specs.Splits.{bounds_at}
use Rattle.solve_transformer.proofs.build.Sources.{later}
use Rattle.solve_transformer.proofs.read.count_finite.Given as goal

abbrev pub invariant-loop-row : goal.invariant-loop-row
invariant-loop-row l = record {
  count : (template : List (List ℤ)) → l.rows ≡ length template → (y : ℕ → ℚ)
      → skip (bounds_at l.source) template y ≡ skip (later (bounds_at l.source) l.row) (drop l.row template) (λ k. y (l.count + k));
  few : l.count ≤ l.row;
}
