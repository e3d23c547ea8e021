-- What the answer of a fitted check says of the certificate.
use Rattle.std.proofs.Common.{◌≡◌, ◌↔◌, refl, true≢false, sym, ap}
use Rattle.std.specs.Prelude.{◌≢◌, List, None, Some, Result, Ok, Err, IsOk}
use Rattle.base_fractions.specs.Fits.{long_limit}
use Rattle.base_fractions.specs.Operation.{first_wide}
use Rattle.flow_systems.specs.Equations.{Equations, Least}
use Rattle.theory_validity.specs.Certificates.{Certificate, PointsInRange, ValidCertificate, bounds_vector}
use Rattle.theory_validity.specs.Faults.{Fault, certificate_fault}
use Rattle.cert_checker.specs.declared.fault.CheckFault.{CheckFault}
use Rattle.cert_checker.specs.CheckEvents.{check_events}
use Rattle.cert_checker.specs.Events.{Event, IsRun, fault_answer, first_stop, operations_of}
use Rattle.cert_checker.proofs.events.Whole.{run_fault, run_least, run_valid}
use Rattle.cert_fitted.specs.Checked.{EndsAt, IsFittedRun}
use Rattle.cert_fitted.specs.declared.checking.FittedFault.{FittedFault}
use Rattle.cert_fitted.specs.declared.checking.FittedFault.TheVariants.{Check, NoMemory}

-- an end at events that stop where others do
pub ends_same : (events others : List Event) → ((f : CheckFault) → first_stop others ≡ Some f → first_stop events ≡ Some f)
    → (fault : FittedFault) → EndsAt others fault → EndsAt events fault
ends_same events others h (Check f) e = h f e
ends_same events others h NoMemory e = tt

-- an answer about events that a run of others tells
pub run_like : (events others : List Event) → ((r : Result (Unit {0}) CheckFault) → IsRun (λ u. Unit {0}) others r
    → IsRun (λ u. Unit {0}) events r) → (result : Result (Unit {0}) FittedFault) → IsFittedRun (λ u. Unit {0}) others result
    → IsFittedRun (λ u. Unit {0}) events result
run_like events others h (Ok u) k = h (Ok u) k
run_like events others h (Err (Check f)) k = h (Err f) k
run_like events others h (Err NoMemory) k = tt

module _ (system : Equations) (certificate : Certificate) where
  abbrev Run : Result (Unit {0}) FittedFault → Type 0
  Run result = IsFittedRun (λ u. Unit {0}) (check_events system certificate) result

  -- where there was memory, a check passes exactly where the certificate is valid and no operation is wide
  pub fitted_valid : (result : Result (Unit {0}) FittedFault) → Run result → result ≢ Err NoMemory → IsOk result
      ↔ (ValidCertificate system certificate × (first_wide long_limit (operations_of (check_events system certificate)) ≡ None))
  fitted_valid (Ok u) h n = run_valid system certificate (Ok u) h
  fitted_valid (Err (Check f)) h n = run_valid system certificate (Err f) h
  fitted_valid (Err NoMemory) h n = absurd (n refl)

  -- where a check answers the fault of a test, that is the certificate's first fault
  pub fitted_fault : (result : Result (Unit {0}) FittedFault) → Run result → (fault : Fault) → result ≡ Err (Check (fault_answer fault))
      → certificate_fault system certificate ≡ Some fault
  fitted_fault (Ok u) h fault e = cc
  fitted_fault (Err (Check f)) h fault e = run_fault system certificate (Err f) h fault (let k : f ≡ fault_answer fault = cc in ap Err k)
  fitted_fault (Err NoMemory) h fault e = cc

  -- where a check passes, the bounds are the least solution
  pub fitted_least : PointsInRange system → (result : Result (Unit {0}) FittedFault) → Run result → IsOk result
      → Least system (bounds_vector system certificate.bounds)
  fitted_least range (Ok u) h o = run_least system certificate range (Ok u) h o
  fitted_least range (Err fault) h o = absurd (true≢false (sym o))
