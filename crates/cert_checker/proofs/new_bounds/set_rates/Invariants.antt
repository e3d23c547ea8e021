use Rattle.std.proofs.Common.{◌≡◌, ◌≤◌, length, drop}
use Rattle.base_numbers.specs.Extended.{fin}
use Rattle.flow_systems.specs.Equations.{Equations, Vector}
use Rattle.cert_types.specs.Certificates.{step_of}
use Rattle.theory_validity.specs.Steps.{put}
use Rattle.cert_checker.specs.StepEvents.{allowance}
use Rattle.cert_checker.specs.Stands.{Stands}
use Rattle.cert_checker.specs.Items.{item_count}
use Rattle.cert_checker.proofs.new_bounds.set_rates.Given as goal

abbrev pub invariant-loop-k : goal.invariant-loop-k
invariant-loop-k l = record {
  within : l.k ≤ item_count l.step;
  size : length l.rates ≡ length l.initial.rates;
  settled : (system : Equations) (z : Vector) → Stands system l.base z
      → Stands system l.rates (put (λ i. fin i.number) (drop l.k (step_of (length system.template) l.step).items)
      (λ p r. allowance (z p r)));
}

abbrev pub decreases-loop-k : goal.decreases-loop-k
decreases-loop-k l = l.k
