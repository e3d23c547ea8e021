use Rattle.std.proofs.Common.{◌≡◌, map, get_or}
use Rattle.std.specs.List.{range_with_len}
use Rattle.base_numbers.specs.Rational.{zero_ℚ}
use Rattle.theory_validity.specs.Words.{column}
use Rattle.solve_composition.proofs.form.compose_column.Given as goal

abbrev pub invariant-loop-at : goal.invariant-loop-at
invariant-loop-at l = l.list.items ≡ map (λ k. get_or (column l.place).coeffs k zero_ℚ) (range_with_len 0 l.at)
