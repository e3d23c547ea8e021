-- Items that can be followed at a later vector.
use Rattle.std.proofs.Common.{◌≡◌, ℕ, ◌+◌, ◌*◌, ◌<◌, List, [], length, get_or, refl, arith}
use Rattle.std.specs.Prelude.{None}
use Rattle.base_numbers.specs.Extended.{Ext, neg_inf}
use Rattle.flow_systems.specs.Equations.{Equations, Vector}
use Rattle.cert_types.specs.declared.step.Step.{Step}
use Rattle.cert_types.specs.Certificates.{step_of}
use Rattle.cert_checker.specs.Events.{first_stop}
use Rattle.cert_checker.specs.Items.{item_count, item_at}
use Rattle.cert_checker.specs.StepEvents.{first_pass_events}
use Rattle.cert_checker.specs.Stands.{Stands}
use Rattle.cert_checker.specs.Usable.{IsUsable}
use Rattle.cert_checker.proofs.names.Passed.{usable}
use Rattle.cert_checker.proofs.names.Items.{items_count}

-- all items of a step at which nothing stops
pub usable_all : (system : Equations) (b : List Ext) → length b ≡ system.points * length system.template → (step : Step) (s : ℕ) →
    ((z : Vector) → Stands system b z → first_stop (first_pass_events (step_of (length system.template) step).kind system z s 0 []
    (step_of (length system.template) step).items) ≡ None) →
    (k : ℕ) → k < item_count step → IsUsable (step_of (length system.template) step).kind system (item_at (length system.template) step k)
usable_all system b size step s h k l =
    let z : Vector = λ p r. get_or b (p * length system.template + r) neg_inf in
    usable (step_of (length system.template) step).kind system z s (step_of (length system.template) step).items
    (h z (record { size = size; at = λ p r i j. refl })) k
    (let e = items_count (length system.template) step in omega (arith, e, l))
