use Rattle.std.proofs.Common.{ℕ, ◌<◌}
use Rattle.base_numbers.specs.Extended.{neg_inf, ◌<ᴱ◌}
use Rattle.solve_transformer.specs.Splits.{bounds_at}
use Rattle.solve_transformer.proofs.build.lowest_lost.Given as goal

abbrev pub invariant-loop-row : goal.invariant-loop-row
invariant-loop-row l = (k : ℕ) → k < l.row → neg_inf <ᴱ bounds_at l.source k
