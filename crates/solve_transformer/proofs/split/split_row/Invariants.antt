use Rattle.std.proofs.Common.{◌≡◌, map, get_or}
use Rattle.std.specs.List.{range_with_len}
use Rattle.base_numbers.specs.Rational.{whole, zero_ℚ}
use Rattle.solve_transformer.specs.Splits.{pairs}
use Rattle.solve_transformer.proofs.split.split_row.Given as goal

abbrev pub invariant-loop-column : goal.invariant-loop-column
invariant-loop-column l = l.list ≡ pairs (map (λ k. get_or (map whole l.row) k zero_ℚ) (range_with_len 0 l.column))
