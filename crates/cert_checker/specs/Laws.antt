-- The laws of what is done to check a certificate.
use Rattle.std.specs.Prelude.{◌≡◌, ◌↔◌, ℕ, List, None, Some, IsTrue, length, get_or}
use Rattle.base_numbers.specs.Rational.{ℚ, zero_ℚ}
use Rattle.flow_edges.specs.declared.edge.Edge.{Edge}
use Rattle.flow_systems.specs.SystemLimits.{is_over}
use Rattle.base_fractions.specs.Fits.{long_limit}
use Rattle.base_fractions.specs.Operation.{first_wide}
use Rattle.flow_systems.specs.Equations.{Equations, Vector, Least}
use Rattle.theory_validity.specs.Certificates.{Certificate, PointsInRange, ValidCertificate, bounds_vector, combination, side}
use Rattle.theory_validity.specs.Faults.{Fault, certificate_fault}
use Rattle.cert_checker.specs.Events.{fault_answer, first_stop, first_fault, operations_of}
use Rattle.cert_checker.specs.EvidenceEvents.{total, row_column, guard_column, row_numbers, guard_numbers}
use Rattle.cert_checker.specs.CheckEvents.{check_events}

-- the tests alone, in this order, fail first where the first failing test of the certificate is
abbrev pub TestsAreFaults : Type 0
TestsAreFaults = (system : Equations) (certificate : Certificate) → first_fault (check_events system certificate)
    ≡ certificate_fault system certificate

-- nothing stops exactly where the certificate is valid and none of the operations is too wide
abbrev pub UnstoppedIsValid : Type 0
UnstoppedIsValid = (system : Equations) (certificate : Certificate) →
    (first_stop (check_events system certificate) ≡ None) ↔ (ValidCertificate system certificate ×
    (first_wide long_limit (operations_of (check_events system certificate)) ≡ None))

-- a test at which the check stops is the first failing one of the certificate
abbrev pub StopsAreFaults : Type 0
StopsAreFaults = (system : Equations) (certificate : Certificate) (fault : Fault) →
    first_stop (check_events system certificate) ≡ Some (fault_answer fault) → certificate_fault system certificate ≡ Some fault

-- where nothing stops, the bounds are the least vector
abbrev pub UnstoppedIsLeast : Type 0
UnstoppedIsLeast = (system : Equations) (certificate : Certificate) → PointsInRange system
    → first_stop (check_events system certificate) ≡ None →
    Least system (bounds_vector system certificate.bounds)

-- the sums of evidence, formed from the left, are the entry of the combination at the column, and the side
pub record SumsAreSides (system : Equations) (edge : Edge) (rows guards : List ℚ) : Type 0 where
  pub column : (k : ℕ) → total (total zero_ℚ rows (row_column system k)) guards (guard_column system edge k)
      ≡ get_or (combination system edge rows guards)
      k zero_ℚ
  pub side : (z : Vector) → total (total zero_ℚ rows (row_numbers system z edge)) guards (guard_numbers system edge)
      ≡ side system z edge rows guards

-- of every evidence with a multiplier for each row, where each row has a coefficient for each variable
abbrev pub EvidenceIsSummed : Type 0
EvidenceIsSummed = (system : Equations) (edge : Edge) (rows guards : List ℚ) → IsTrue (is_over system.variables system.template) →
    length rows ≡ length system.template → SumsAreSides system edge rows guards
