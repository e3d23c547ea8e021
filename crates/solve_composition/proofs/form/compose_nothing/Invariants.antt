use Rattle.std.proofs.Common.{◌≡◌, [], get_or, map}
use Rattle.std.specs.List.{range_with_len}
use Rattle.base_numbers.specs.Rational.{zero_ℚ}
use Rattle.solve_composition.proofs.form.compose_nothing.Given as goal

abbrev pub invariant-loop-at : goal.invariant-loop-at
invariant-loop-at l = l.list.items ≡ map (λ k. get_or [] k zero_ℚ) (range_with_len 0 l._at)
