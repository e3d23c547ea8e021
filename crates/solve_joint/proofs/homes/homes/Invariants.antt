use Rattle.std.proofs.Common.{◌≡◌, ℕ, ◌<◌, length, get_or}
use Rattle.solve_joint.specs.Classes.{IsHome}
use Rattle.solve_joint.proofs.homes.homes.Given as goal

abbrev pub invariant-loop-point : goal.invariant-loop-point
invariant-loop-point l = record {
  size : length l.homes.items ≡ l.point;
  each : (p : ℕ) → p < l.point → IsHome l.rows p (get_or l.homes.items p 0);
}
