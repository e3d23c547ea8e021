-- What is done to check a certificate, from its sizes to its last evidence.
use Rattle.std.specs.Prelude.{ℕ, false, ◌+◌, ◌*◌, List, [], ◌∷◌, ◌++◌, length, get_or}
use native.Mathlib.Decide.{dec_le, ℕ_discrete}
use Rattle.flow_systems.specs.declared.spot.Site.TheVariants.{Upper}
use Rattle.flow_systems.specs.Equations.{Equations, Vector}
use Rattle.theory_validity.specs.Steps.{start_vector}
use Rattle.theory_validity.specs.Certificates.{Evidence, Need, needs, after_steps, Certificate, bounds_vector}
use Rattle.theory_validity.specs.Decide.{dec_and, ext_same}
use Rattle.theory_validity.specs.Faults.{SizeFault, FinalFault, UpperFault, unknowns}
use Rattle.cert_checker.specs.Events.{Event, Test, decided}
use Rattle.cert_checker.specs.StepEvents.{steps_events}
use Rattle.cert_checker.specs.EvidenceEvents.{evidence_events}

-- the number of an unknown
abbrev pub number_of : Equations → ℕ → ℕ → ℕ
number_of system p r = p * length system.template + r

-- each of these unknowns has the same bound in two vectors
unfoldable pub final_events : Equations → Vector → Vector → List (ℕ × ℕ) → List Event
final_events system z bounds [] = []
final_events system z bounds (u ∷ us) = Test (decided (ext_same (z u.0 u.1) (bounds u.0 u.1))) (FinalFault (number_of system u.0 u.1)) ∷
    final_events system z bounds us

-- each need takes the next evidence; an absent one fails
unfoldable pub uppers_events : Equations → Vector → List Need → List Evidence → List Event
uppers_events system z [] evidence = []
uppers_events system z (need ∷ needs) [] = Test false (UpperFault (number_of system need.edge.to need.row) need.number)
    ∷ uppers_events system z needs []
uppers_events system z (need ∷ needs) (e ∷ evidence) =
    evidence_events (Upper (number_of system need.edge.to need.row) need.number)
    (UpperFault (number_of system need.edge.to need.row) need.number) system z need.edge (get_or system.template need.row [])
    (z need.edge.to need.row) e
    ++ uppers_events system z needs evidence

-- sizes, steps from the start vector, the vector that they lead to, and evidence
unfoldable pub check_events : Equations → Certificate → List Event
check_events system certificate =
    Test (decided (dec_and (ℕ_discrete (length certificate.bounds) (system.points * length system.template))
    (dec_le (length certificate.uppers)
    (length (needs system (bounds_vector system certificate.bounds)))))) SizeFault
    ∷ (steps_events system start_vector 0 certificate.steps
    ++ (final_events system (after_steps certificate.steps start_vector) (bounds_vector system certificate.bounds) (unknowns system)
    ++ uppers_events system (bounds_vector system certificate.bounds) (needs system (bounds_vector system certificate.bounds))
    certificate.uppers))
