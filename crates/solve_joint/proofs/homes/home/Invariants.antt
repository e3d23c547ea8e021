use Rattle.std.proofs.Common.{◌≡◌, ℕ, ◌<◌, false}
use Rattle.solve_joint.specs.Classes.{are_mutual}
use Rattle.solve_joint.proofs.homes.home.Given as goal

abbrev pub invariant-loop-other : goal.invariant-loop-other
invariant-loop-other l = (k : ℕ) → k < l.other → are_mutual l.rows l.point k ≡ false
