-- Items whose tests at the vector that a step finds have passed.
use Rattle.std.proofs.Common.{◌≡◌, ◌∙◌, ℕ, zero, suc, ◌<◌, List, [], ◌∷◌, length, get_or, refl, sym, arith}
use Rattle.std.specs.Prelude.{Option, None, Some}
use Rattle.base_numbers.specs.Extended.{fin, pos_inf}
use Rattle.flow_systems.specs.Equations.{Equations, Vector}
use Rattle.theory_validity.specs.Steps.{word, Item, Kind, Plain, Jump, Ray, Step, edge_of, item_value}
use Rattle.theory_validity.specs.Decide.{dec_le_ℚ, dec_ltᴱ, dec_finite, dec_runs}
use Rattle.theory_validity.specs.Faults.{Fault, Named, dec_named, bound_at, first_tests, first_pass}
use Rattle.theory_validity.proofs.steps.StepFaults.{unless_none}
use Rattle.cert_checker.specs.declared.fault.CheckFault.{CheckFault}
use Rattle.cert_checker.specs.Events.{first_stop}
use Rattle.cert_checker.specs.Items.{no_item}
use Rattle.cert_checker.specs.Usable.{IsUsable}
use Rattle.cert_checker.specs.StepEvents.{first_pass_events, second_pass_events, step_events}
use Rattle.cert_checker.proofs.law.Stops.{stop_none}
use Rattle.cert_checker.proofs.law.StepTests.{first_pass_then}
use Rattle.cert_checker.proofs.following.Traces.{stop_sooner, stop_later}

-- an item's names, and what is tested later
pub first_named : (kind : Kind) (system : Equations) (z : Vector) (earlier : List Item) (s k : ℕ) (item : Item) (next : Option Fault) →
    first_tests kind system z earlier s k item next ≡ None → Named kind system earlier item × (next ≡ None)
unfolding first_tests
first_named Plain system z earlier s k item next e =
    let a = unless_none (dec_named Plain system earlier item) _ _ e in
    let b = unless_none (dec_runs system z (edge_of system item) (word item.low)) _ _ a.1 in
    let c = unless_none (dec_ltᴱ (bound_at z item) (fin item.number)) _ _ b.1 in
    let d = unless_none (dec_le_ℚ item.number (item_value system item (word item.low))) _ _ c.1 in
    (a.0, d.1)
first_named Jump system z earlier s k item next e =
    let a = unless_none (dec_named Jump system earlier item) _ _ e in
    let b = unless_none (dec_finite (bound_at z item)) _ _ a.1 in
    let c = unless_none (dec_runs system z (edge_of system item) (word item.low)) _ _ b.1 in
    let d = unless_none (dec_ltᴱ (bound_at z item) (fin (item_value system item (word item.low)))) _ _ c.1 in
    (a.0, d.1)
first_named Ray system z earlier s k item next e =
    let a = unless_none (dec_named Ray system earlier item) _ _ e in
    let b = unless_none (dec_ltᴱ (bound_at z item) pos_inf) _ _ a.1 in
    let c = unless_none (dec_runs system z (edge_of system item) (word item.low)) _ _ b.1 in
    let d = unless_none (dec_ltᴱ (bound_at z item) (fin (item_value system item (word item.low)))) _ _ c.1 in
    (a.0, d.1)

usable_from : (kind : Kind) (system : Equations) (z : Vector) (s k : ℕ) (earlier items : List Item)
    → first_pass kind system z s k earlier items ≡ None → (i : ℕ) → i < length items → IsUsable kind system (get_or items i no_item)
unfolding first_pass
usable_from kind system z s k earlier [] e i l = absurd (omega arith)
usable_from kind system z s k earlier (item ∷ items) e zero l =
    let n = (first_named kind system z earlier s k item (first_pass kind system z s (suc k) (item ∷ earlier) items) e).0 in
    record { placed = n.0; sized = n.1.1.1 }
usable_from kind system z s k earlier (item ∷ items) e (suc i) l =
    usable_from kind system z s (suc k) (item ∷ earlier) items (first_named kind system z earlier s k item
    (first_pass kind system z s (suc k) (item ∷ earlier) items) e).1 i (omega (arith, l))

-- items at which nothing stops can be followed later
pub usable : (kind : Kind) (system : Equations) (z : Vector) (s : ℕ) (items : List Item)
    → first_stop (first_pass_events kind system z s 0 [] items) ≡ None → (i : ℕ) → i < length items
    → IsUsable kind system (get_or items i no_item)
usable kind system z s items e =
    usable_from kind system z s 0 [] items (sym (first_pass_then kind system z s 0 [] items)
    ∙ ((stop_none (first_pass_events kind system z s 0 [] items)).0 e).0)

-- ---- a step's two passes
module _ (system : Equations) (z : Vector) (s : ℕ) (step : Step) where
  -- where the first pass of a step stops, the step stops there
  pub step_first : (f : CheckFault) → first_stop (first_pass_events step.kind system z s 0 [] step.items) ≡ Some f
      → first_stop (step_events system z s step) ≡ Some f
  unfolding step_events
  step_first f e = stop_sooner (first_pass_events step.kind system z s 0 [] step.items)
      (second_pass_events step.kind system z step.items s 0 step.items) f e

  -- where the first pass of a step passes, the step stops where the second does
  pub step_second : (o : Option CheckFault) → first_stop (first_pass_events step.kind system z s 0 [] step.items) ≡ None
      → first_stop (second_pass_events step.kind system z step.items s 0 step.items) ≡ o → first_stop (step_events system z s step) ≡ o
  unfolding step_events
  step_second o e f = stop_later (first_pass_events step.kind system z s 0 [] step.items)
      (second_pass_events step.kind system z step.items s 0 step.items) e ∙ f

-- a plain step has one pass
pub plain_second : (system : Equations) (z : Vector) (all : List Item) (s k : ℕ) (items : List Item)
    → first_stop (second_pass_events Plain system z all s k items) ≡ None
unfolding first_stop second_pass_events
plain_second system z all s k [] = refl
plain_second system z all s k (item ∷ items) = plain_second system z all s (suc k) items
