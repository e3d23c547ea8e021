-- Steps that follow each other, as far as the first of them are taken.
use Rattle.std.proofs.Common.{◌≡◌, ◌∙◌, ℕ, zero, suc, ◌+◌, ◌*◌, ◌<◌, ◌≤◌, Bool, true, false, List, ◌∷◌, length, get_or, drop, refl, sym, ap}
use Rattle.std.proofs.Common.{add-one, arith, if◌then◌else◌}
use Rattle.std.specs.Prelude.{Some, None, nat_lt}
use Rattle.std.proofs.Math.Seq.{drop-cons}
use Rattle.std.proofs.lemmas.List.{drop_all}
use Rattle.std.proofs.lemmas.Bool.{ltb-true, ltb-false}
use Rattle.base_numbers.specs.Extended.{Ext, neg_inf, pos_inf}
use Rattle.flow_systems.specs.Equations.{Equations, Vector}
use Rattle.theory_validity.specs.Steps.{Step, after_step, start_vector}
use Rattle.theory_validity.specs.Certificates.{after_steps}
use Rattle.cert_checker.specs.declared.fault.CheckFault.{CheckFault}
use Rattle.cert_checker.specs.Events.{first_stop}
use Rattle.cert_checker.specs.StepEvents.{step_events, steps_events}
use Rattle.cert_checker.specs.Stands.{Stands, start_at}
use Rattle.cert_checker.proofs.following.Traces.{stop_sooner, stop_later}
use Rattle.cert_checker.proofs.names.Items.{number_below}

module _ (system : Equations) (steps : List Step) (i : ℕ) (z : Vector)
    (left : first_stop (steps_events system start_vector 0 steps) ≡ first_stop (steps_events system z i (drop i steps)))
    (leads : after_steps steps start_vector ≡ after_steps (drop i steps) z) where
  module _ (step : Step) (l : i < length steps) (e : step ≡ get_or steps i step) where
    next_left : drop i steps ≡ step ∷ drop (suc i) steps
    next_left = drop-cons steps i step l ∙ ap (λ s. s ∷ drop (suc i) steps) (sym e)

    -- where nothing stops at a step, the next steps are left
    pub steps_more : first_stop (step_events system z i step) ≡ None →
        first_stop (steps_events system start_vector 0 steps) ≡ first_stop
        (steps_events system (after_step step z) (i + 1) (drop (i + 1) steps))
    unfolding steps_events
    steps_more n =
        left ∙ ap (λ s. first_stop (steps_events system z i s)) next_left
        ∙ stop_later (step_events system z i step) (steps_events system (after_step step z) (suc i) (drop (suc i) steps)) n
        ∙ ap (λ j. first_stop (steps_events system (after_step step z) j (drop j steps))) (sym (add-one i))

    -- the next steps lead from the vector after this one
    pub leads_more : after_steps steps start_vector ≡ after_steps (drop (i + 1) steps) (after_step step z)
    unfolding after_steps
    leads_more = leads ∙ ap (λ s. after_steps s z) next_left ∙ ap (λ j. after_steps (drop j steps) (after_step step z)) (sym (add-one i))

    -- where something stops at a step, the steps stop there
    pub steps_stop : (f : CheckFault) → first_stop (step_events system z i step) ≡ Some f
        → first_stop (steps_events system start_vector 0 steps) ≡ Some f
    unfolding steps_events
    steps_stop f n = left ∙ ap (λ s. first_stop (steps_events system z i s)) next_left
        ∙ stop_sooner (step_events system z i step) (steps_events system (after_step step z) (suc i) (drop (suc i) steps)) f n

  -- where all steps are taken, nothing stops
  pub steps_all : length steps ≤ i → first_stop (steps_events system start_vector 0 steps) ≡ None
  unfolding first_stop steps_events
  steps_all l = left ∙ ap (λ s. first_stop (steps_events system z i s)) (drop_all i steps l)

  -- where all steps are taken, they lead to this vector
  pub led_all : length steps ≤ i → after_steps steps start_vector ≡ z
  unfolding after_steps
  led_all l = leads ∙ ap (λ s. after_steps s z) (drop_all i steps l)

-- ---- the start
start_yes : (rows u : ℕ) → u < rows → start_at rows u ≡ pos_inf
start_yes rows u l = by (nat_lt u rows) refl
  where
    by : (b : Bool) → nat_lt u rows ≡ b → (if b then pos_inf else neg_inf) ≡ pos_inf
    by true e = refl
    by false e = absurd (let k = ltb-false u rows e in omega (arith, k, l))

start_no : (rows u : ℕ) → rows ≤ u → start_at rows u ≡ neg_inf
start_no rows u l = by (nat_lt u rows) refl
  where
    by : (b : Bool) → nat_lt u rows ≡ b → (if b then pos_inf else neg_inf) ≡ neg_inf
    by true e = absurd (let k = ltb-true u rows e in omega (arith, k, l))
    by false e = refl

-- bounds that are those of the start stand for the start vector
pub starts : (system : Equations) (bounds : List Ext) (n : ℕ) → length bounds ≤ n
    → ((j : ℕ) → j < n → get_or bounds j neg_inf ≡ start_at (length system.template) j)
    → length bounds ≡ system.points * length system.template → Stands system bounds start_vector
unfolding start_vector
starts system bounds n l h size = record { size = size; at = λ p r i k. at p r i k }
  where
    at : (p r : ℕ) → p < system.points → r < length system.template → get_or bounds (p * length system.template + r) neg_inf
        ≡ start_vector p r
    at zero r i k =
        let b = number_below zero system.points (length system.template) r i k in
        let e : 0 * length system.template + r ≡ r = omega arith in
        h (0 * length system.template + r) (omega (arith, b, size, l)) ∙ ap (start_at (length system.template)) e
        ∙ start_yes (length system.template) r k
    at (suc p) r i k =
        let b = number_below (suc p) system.points (length system.template) r i k in
        h (suc p * length system.template + r) (omega (arith, b, size, l))
        ∙ start_no (length system.template) (suc p * length system.template + r) (omega arith)
