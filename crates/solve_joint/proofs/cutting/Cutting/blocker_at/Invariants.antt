use Rattle.std.proofs.Common.{◌≡◌, ℕ, ◌-◌, ◌<◌, false, length, get_or}
use Rattle.solve_joint.specs.Waits.{is_outside}
use Rattle.solve_joint.proofs.cutting.Cutting.blocker_at.Given as goal

abbrev pub invariant-loop-passed : goal.invariant-loop-passed
invariant-loop-passed l = (k : ℕ) → k < l.passed
    → is_outside l.self.classes.items l.gone l.head (get_or l.places (length l.places - 1 - k) 0) ≡ false
