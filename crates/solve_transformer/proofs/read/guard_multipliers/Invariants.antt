use Rattle.std.proofs.Common.{◌≡◌, ◌+◌, map}
use Rattle.std.specs.List.{range_with_len}
use Rattle.lp_theory.specs.Listed.{at}
use Rattle.solve_transformer.proofs.read.guard_multipliers.Given as goal

abbrev pub invariant-loop-guard : goal.invariant-loop-guard
invariant-loop-guard l = l.list.items ≡ map (λ k. at l.multipliers (l.first + k)) (range_with_len 0 l.guard)
