-- A vector compared with another, unknown by unknown.
use Rattle.std.proofs.Common.{◌≡◌, ◌∙◌, ℕ, ◌+◌, ◌*◌, ◌/◌, ◌%◌, ◌<◌, ◌≤◌, [], ◌∷◌, length, ap}
use Rattle.std.specs.Prelude.{Some, None, flat_map}
use Rattle.flow_systems.specs.Equations.{Equations, Vector}
use Rattle.theory_validity.specs.Decide.{ext_same}
use Rattle.theory_validity.specs.Faults.{FinalFault, unknowns}
use Rattle.cert_checker.specs.declared.fault.CheckFault.TheVariants.{Final}
use Rattle.cert_checker.specs.Events.{first_stop}
use Rattle.cert_checker.specs.CheckEvents.{final_events}
use Rattle.cert_checker.proofs.following.Traces.{test_yes, test_no}
use Rattle.cert_checker.proofs.events.Numbers.{range_next, range_end, unknowns_from, unknowns_all, number_is}

module _ (system : Equations) (z goal : Vector) where
  -- what is left from number u on
  abbrev pub FinalLeft : ℕ → Type 0
  FinalLeft u = first_stop (final_events system z goal (unknowns system)) ≡ first_stop (final_events system z goal (unknowns_from system u))

  -- at first all unknowns are left
  pub final_first : FinalLeft 0
  final_first = ap (λ us. first_stop (final_events system z goal us)) (unknowns_all system)

  module _ (u : ℕ) (h : FinalLeft u) where
    next_left : u < system.points * length system.template → first_stop (final_events system z goal (unknowns system))
        ≡ first_stop (final_events system z goal ((u / length system.template, u % length system.template) ∷ unknowns_from system (u + 1)))
    next_left l = h ∙ ap (λ us. first_stop (final_events system z goal
        (flat_map (λ v. (v / length system.template, v % length system.template) ∷ []) us)))
        (range_next u (system.points * length system.template) l)

    -- one more that is the same
    pub final_more : u < system.points * length system.template → z (u / length system.template) (u % length system.template)
        ≡ goal (u / length system.template) (u % length system.template) → FinalLeft (u + 1)
    unfolding final_events
    final_more l e = next_left l ∙ test_yes (ext_same (z (u / length system.template) (u % length system.template))
        (goal (u / length system.template) (u % length system.template)))
        (FinalFault (u / length system.template * length system.template + u % length system.template))
        (final_events system z goal (unknowns_from system (u + 1))) e

    -- and one that differs
    pub final_stops : u < system.points * length system.template → ¬ (z (u / length system.template) (u % length system.template)
        ≡ goal (u / length system.template) (u % length system.template))
        → first_stop (final_events system z goal (unknowns system)) ≡ Some (Final u)
    unfolding final_events
    final_stops l n =
        next_left l ∙ test_no (ext_same (z (u / length system.template) (u % length system.template))
        (goal (u / length system.template) (u % length system.template)))
        (FinalFault (u / length system.template * length system.template + u % length system.template))
        (final_events system z goal (unknowns_from system (u + 1))) n
        ∙ ap (λ k. Some (Final k)) (number_is u (length system.template))

    -- where all unknowns are compared, nothing stops
    pub final_all : system.points * length system.template ≤ u → first_stop (final_events system z goal (unknowns system)) ≡ None
    unfolding final_events first_stop
    final_all l = h ∙ ap (λ us. first_stop (final_events system z goal
        (flat_map (λ v. (v / length system.template, v % length system.template) ∷ []) us)))
        (range_end u (system.points * length system.template) l)
