use Rattle.std.proofs.Common.{◌≡◌, take}
use Rattle.solve_rounds.specs.Turning.{finite_in}
use Rattle.solve_rounds.proofs.turning.finite.Given as goal

abbrev pub invariant-loop-unknown : goal.invariant-loop-unknown
invariant-loop-unknown l = l.left.items ≡ finite_in l.bounds (take l.unknown-index l.list)
