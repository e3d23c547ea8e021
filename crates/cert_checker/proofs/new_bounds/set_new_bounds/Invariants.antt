use Rattle.std.proofs.Common.{◌≡◌, ◌≤◌, length, drop}
use Rattle.flow_systems.specs.Equations.{Equations, Vector}
use Rattle.cert_types.specs.Certificates.{step_of}
use Rattle.theory_validity.specs.Steps.{new_value, put}
use Rattle.cert_checker.specs.Stands.{Stands}
use Rattle.cert_checker.specs.Items.{item_count}
use Rattle.cert_checker.proofs.new_bounds.set_new_bounds.Given as goal

abbrev pub invariant-loop-k : goal.invariant-loop-k
invariant-loop-k l = record {
  within : l.k ≤ item_count l.step;
  size : length l.bounds ≡ length l.initial.bounds;
  settled : (system : Equations) (z : Vector) → Stands system l.initial.bounds z
      → Stands system l.bounds (put (new_value (step_of (length system.template) l.step).kind)
      (drop l.k (step_of (length system.template) l.step).items) z);
}

abbrev pub decreases-loop-k : goal.decreases-loop-k
decreases-loop-k l = l.k
