-- The laws of words, steps and certificates.
use Rattle.std.specs.Prelude.{◌≡◌, ◌↔◌, ◌++◌, ℕ, List, length, None}
use Rattle.base_numbers.specs.Rational.{ℚ}
use Rattle.flow_edges.specs.declared.edge.Action.{Action}
use Rattle.flow_systems.specs.States.{RationalState, Traces}
use Rattle.flow_systems.specs.Equations.{Equations, Vector, Least}
use Rattle.theory_validity.specs.Words.{Word, free_count, start_of, end_of, Passes}
use Rattle.theory_validity.specs.Steps.{Below, BoundsItems, Step, ValidStep, after_step}
use Rattle.theory_validity.specs.Certificates.{Certificate, PointsInRange, ValidCertificate, bounds_vector}
use Rattle.theory_validity.specs.Faults.{certificate_fault}

-- a word whose guards hold gives a trace
abbrev pub WordsGiveTraces : Type 0
WordsGiveTraces = (n : ℕ) (actions : List Action) (w : Word) → Passes n actions w → Traces actions (start_of n w) (end_of n actions w)

-- the word of a trace: its start state, and its free values in order
pub record WordOf (n : ℕ) (actions : List Action) (x y : RationalState) : Type 0 where
  pub free : List ℚ
  pub count : length free ≡ free_count actions
  pub passes : Passes n actions (x ++ free)
  pub starts : start_of n (x ++ free) ≡ x
  pub ends : end_of n actions (x ++ free) ≡ y

-- each trace is that of a word
abbrev pub TracesHaveWords : Type 0
TracesHaveWords = (n : ℕ) (actions : List Action) (x y : RationalState) → length x ≡ n → Traces actions x y → WordOf n actions x y

-- a valid step from a vector at most another one, which bounds the edges of the step's items, ends at most at that one
abbrev pub StepsStayBelow : Type 0
StepsStayBelow = (system : Equations) (z q : Vector) (step : Step) → ValidStep system z step → Below system z q
    → BoundsItems system q step.items →
    Below system (after_step step z) q

-- the bounds of a valid certificate are the least vector
abbrev pub CertificatesAreLeast : Type 0
CertificatesAreLeast = (system : Equations) (certificate : Certificate) → PointsInRange system → ValidCertificate system certificate →
    Least system (bounds_vector system certificate.bounds)

-- the tests in order find no fault exactly where the certificate is valid
abbrev pub FaultlessIsValid : Type 0
FaultlessIsValid = (system : Equations) (certificate : Certificate) → (certificate_fault system certificate ≡ None)
    ↔ ValidCertificate system certificate
