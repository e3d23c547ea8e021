-- What the answer of a check says of the certificate.
use Rattle.std.proofs.Common.{◌≡◌, ◌∙◌, ◌↔◌, ℕ, ◌*◌, ◌≤◌, List, ◌++◌, length, true≢false, refl, sym, ap, subst}
use Rattle.std.specs.Prelude.{Some, None, Result, Ok, Err, IsOk}
use Rattle.std.proofs.lemmas.List.{length-map}
use native.Mathlib.Decide.{dec_le, ℕ_discrete}
use Rattle.base_fractions.specs.Fits.{long_limit}
use Rattle.base_fractions.specs.Operation.{first_wide}
use Rattle.flow_systems.specs.Equations.{Equations, Least}
use Rattle.cert_types.specs.declared.cert.Cert.{Cert}
use Rattle.cert_types.specs.Certificates.{certificate_of, evidence_of}
use Rattle.theory_validity.specs.Steps.{start_vector}
use Rattle.theory_validity.specs.Certificates.{needs, after_steps, Certificate, bounds_vector, ValidCertificate, PointsInRange}
use Rattle.theory_validity.specs.Decide.{dec_and}
use Rattle.theory_validity.specs.Faults.{Fault, SizeFault, unknowns, certificate_fault}
use Rattle.cert_checker.specs.declared.fault.CheckFault.{CheckFault}
use Rattle.cert_checker.specs.declared.fault.CheckFault.TheVariants.{Size}
use Rattle.cert_checker.specs.Events.{Event, IsRun, fault_answer, first_stop, operations_of}
use Rattle.cert_checker.specs.StepEvents.{steps_events}
use Rattle.cert_checker.specs.CheckEvents.{final_events, uppers_events, check_events}
use Rattle.cert_checker.proofs.following.Traces.{stop_sooner, stop_later, test_yes, test_no}
use Rattle.cert_checker.proofs.events.CheckTests.{unstopped_is_valid, unstopped_is_least, stops_are_faults}

-- ---- where it stops
-- the sizes of a value of the code are those of the certificate that it stands for
abbrev pub HasSize : Equations → Cert → Type 0
HasSize system cert = (length cert.bounds ≡ system.points * length system.template)
    × (length cert.uppers ≤ length (needs system (bounds_vector system cert.bounds)))

module _ (system : Equations) (certificate : Certificate) where
  -- as many bounds as there are unknowns, and at most as much evidence as is needed
  abbrev pub IsSized : Type 0
  IsSized = (length certificate.bounds ≡ system.points * length system.template)
      × (length certificate.uppers ≤ length (needs system (bounds_vector system certificate.bounds)))

  abbrev Steps : List Event
  Steps = steps_events system start_vector 0 certificate.steps

  abbrev Finals : List Event
  Finals = final_events system (after_steps certificate.steps start_vector) (bounds_vector system certificate.bounds) (unknowns system)

  abbrev Uppers : List Event
  Uppers = uppers_events system (bounds_vector system certificate.bounds) (needs system (bounds_vector system certificate.bounds))
      certificate.uppers

  -- a check of a certificate of the wrong size stops at the size
  pub whole_size : ¬ IsSized → first_stop (check_events system certificate) ≡ Some Size
  unfolding check_events
  whole_size n =
      test_no (dec_and (ℕ_discrete (length certificate.bounds) (system.points * length system.template))
      (dec_le (length certificate.uppers) (length (needs system (bounds_vector system certificate.bounds))))) SizeFault
      (Steps ++ (Finals ++ Uppers)) n

  module _ (sized : IsSized) where
    whole_later : first_stop (check_events system certificate) ≡ first_stop (Steps ++ (Finals ++ Uppers))
    unfolding check_events
    whole_later =
        test_yes (dec_and (ℕ_discrete (length certificate.bounds) (system.points * length system.template))
        (dec_le (length certificate.uppers) (length (needs system (bounds_vector system certificate.bounds))))) SizeFault
        (Steps ++ (Finals ++ Uppers)) sized

    -- where the steps stop, the check stops there
    pub whole_steps : (f : CheckFault) → first_stop Steps ≡ Some f → first_stop (check_events system certificate) ≡ Some f
    whole_steps f e = whole_later ∙ stop_sooner Steps (Finals ++ Uppers) f e

    module _ (steps : first_stop Steps ≡ None) where
      -- where the last vector isn't that of the bounds, the check stops there
      pub whole_final : (f : CheckFault) → first_stop Finals ≡ Some f → first_stop (check_events system certificate) ≡ Some f
      whole_final f e = whole_later ∙ stop_later Steps (Finals ++ Uppers) steps ∙ stop_sooner Finals Uppers f e

      -- where steps and last vector pass, the check answers as the evidence does
      pub whole_uppers : first_stop Finals ≡ None → (result : Result (Unit {0}) CheckFault) → IsRun (λ u. Unit {0}) Uppers result
          → IsRun (λ u. Unit {0}) (check_events system certificate) result
      whole_uppers final (Ok u) e = (tt, whole_later ∙ stop_later Steps (Finals ++ Uppers) steps ∙ stop_later Finals Uppers final ∙ e.1)
      whole_uppers final (Err f) e = whole_later ∙ stop_later Steps (Finals ++ Uppers) steps ∙ stop_later Finals Uppers final ∙ e

-- a value of the right size stands for a certificate of the right size
pub size_to : (system : Equations) (rows : ℕ) (cert : Cert) → HasSize system cert → IsSized system (certificate_of rows cert)
size_to system rows cert h = (
  h.0,
  subst (λ n. n ≤ length (needs system (bounds_vector system cert.bounds)))
      (sym (length-map cert.uppers evidence_of)) h.1,
)

-- a certificate of the right size is stood for by a value of the right size
pub size_from : (system : Equations) (rows : ℕ) (cert : Cert) → IsSized system (certificate_of rows cert) → HasSize system cert
size_from system rows cert h = (
  h.0,
  subst (λ n. n ≤ length (needs system (bounds_vector system cert.bounds)))
      (length-map cert.uppers evidence_of) h.1,
)

-- ---- what an answer says
module _ (system : Equations) (certificate : Certificate) where
  abbrev Run : Result (Unit {0}) CheckFault → Type 0
  Run result = IsRun (λ u. Unit {0}) (check_events system certificate) result

  -- a check passes exactly where the certificate is valid and no operation is wide
  pub run_valid : (result : Result (Unit {0}) CheckFault) → Run result → IsOk result
      ↔ (ValidCertificate system certificate × (first_wide long_limit (operations_of (check_events system certificate)) ≡ None))
  run_valid (Ok u) h = ((λ o. (unstopped_is_valid system certificate).0 h.1), (λ v. refl))
  run_valid (Err f) h = ((λ o. absurd (true≢false (sym o))), (λ v. let e = (unstopped_is_valid system certificate).1 v in cc))

  -- where a check answers the fault of a test, that is the certificate's first fault
  pub run_fault : (result : Result (Unit {0}) CheckFault) → Run result → (fault : Fault) → result ≡ Err (fault_answer fault)
      → certificate_fault system certificate ≡ Some fault
  run_fault (Ok u) h fault e = cc
  run_fault (Err f) h fault e = let k : f ≡ fault_answer fault = cc in stops_are_faults system certificate fault (h ∙ ap Some k)

  -- where a check passes, the bounds are the least solution
  pub run_least : PointsInRange system → (result : Result (Unit {0}) CheckFault) → Run result → IsOk result
      → Least system (bounds_vector system certificate.bounds)
  run_least range (Ok u) h o = unstopped_is_least system certificate range h.1
  run_least range (Err f) h o = absurd (true≢false (sym o))
