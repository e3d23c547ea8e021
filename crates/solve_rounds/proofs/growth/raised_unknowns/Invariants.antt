use Rattle.std.proofs.Common.{◌≡◌}
use Rattle.solve_rounds.specs.Growing.{marked_numbers}
use Rattle.solve_rounds.proofs.growth.raised_unknowns.Given as goal

abbrev pub invariant-loop-unknown : goal.invariant-loop-unknown
invariant-loop-unknown l = l.list.items ≡ marked_numbers l.raised l.unknown
