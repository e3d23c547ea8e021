-- What a program and the bytes of a certificate are: a valid certificate of the program, or refused by a cause, or a number is
-- wide on the way.
-- The program comes first, then the certificate, its rows, the unknowns, the composition of the edges, and the tests.
use Rattle.std.specs.Prelude.{◌≡◌, ◌≤◌, ◌<◌, ◌⊎◌, ℕ, ℤ, List, [], Err, Some, None, length, slice_get}
use Rattle.base_fractions.specs.Fits.{long_limit}
use Rattle.base_fractions.specs.Operation.{first_wide, operation_of}
use Rattle.lang_tree.specs.Tree.{Statements}
use Rattle.flow_templates.specs.RowFaults.{faults_of}
use Rattle.flow_systems.specs.declared.spot.Spot.{Spot}
use Rattle.flow_systems.specs.declared.spot.Site.TheVariants.{Compose}
use Rattle.flow_systems.specs.Equations.{Equations, Vector}
use Rattle.flow_systems.specs.Solutions.{equations_of_program}
use Rattle.theory_validity.specs.Certificates.{Certificate, ValidCertificate, bounds_vector}
use Rattle.theory_validity.specs.Faults.{Fault, certificate_fault}
use Rattle.cert_types.specs.Certificates.{certificate_of}
use Rattle.cert_types.specs.declared.cert.Cert.{Cert}
use Rattle.cert_written.specs.declared.cert.Cert.{Cert as WrittenCert}
use Rattle.cert_fitted.specs.Fitted.{cert_for, rows_for}
use Rattle.cert_text.specs.Certificates.{Spells, SpellsCert, SpellsTooMany, cert_in}
use Rattle.serde_json.specs.Data.{Data}
use Rattle.cert_text.specs.declared.fault.FormFault.{FormFault}
use Rattle.cert_text.specs.declared.fault.FormFault.TheVariants.{NotJson, Shape, Number, Version, Expanded, NoMemory}
use Rattle.solve_composition.specs.Operations.{wide_composition}
use Rattle.cert_checker.specs.CheckEvents.{check_events}
use Rattle.cert_checker.specs.Events.{fault_answer, first_stop, operations_of}
use Rattle.cert_checker.specs.declared.fault.CheckFault.{CheckFault}
use Rattle.cert_checker.specs.declared.fault.CheckFault.TheVariants as check
use Rattle.top_texts.specs.Texts.{IsAnalysed, Program, unknowns}
use Rattle.top_status.specs.declared.status.CertCause.{CertCause}
use Rattle.top_status.specs.declared.status.CertCause.TheVariants.{Form, Rows, Unknowns, Check}
use Rattle.flow_systems.specs.declared.limits.TheConstants.{MOST_UNKNOWNS}

-- the bytes spell no certificate, by this fault
abbrev pub IsFormFault : List ℕ → FormFault → Type 0
IsFormFault bytes NotJson = (d : Data) → Spells bytes d → ⊥
IsFormFault bytes (Shape field) = (d : Data) × Spells bytes d × (cert_in d ≡ Err (Shape field))
IsFormFault bytes (Number field) = (d : Data) × Spells bytes d × (cert_in d ≡ Err (Number field))
IsFormFault bytes Version = (d : Data) × Spells bytes d × (cert_in d ≡ Err Version)
IsFormFault bytes Expanded = SpellsTooMany bytes
IsFormFault bytes NoMemory = ⊥

-- the certificate for which a written one stands with a program: each list has the length that the program and the rows ask for
abbrev pub fitted_to : List (List ℕ) → Statements → WrittenCert → Cert
fitted_to names body written = cert_for (equations_of_program (length names) body (rows_for (length names) written.rows)) written

-- the bytes spell a written certificate that stands for this one with a program
pub record SpellsFor (names : List (List ℕ)) (body : Statements) (bytes : List ℕ) (cert : Cert) : Type 0 where
  pub written : WrittenCert
  pub spells : SpellsCert bytes written
  pub fitted : cert ≡ fitted_to names body written

-- the program has a core within the limits, and the bytes spell this certificate
pub record IsSpelt (program : Program) (bytes : List ℕ) (names : List (List ℕ)) (body : Statements) (cert : Cert) : Type 0 where
  pub analysed : IsAnalysed program names body
  pub spells : SpellsFor names body bytes cert

-- and the certificate's rows are a template over the program's variables, with no more unknowns than a system may have
pub record IsSystemWith (program : Program) (bytes : List ℕ) (names : List (List ℕ)) (body : Statements) (cert : Cert) : Type 0 where
  pub spelt : IsSpelt program bytes names body cert
  pub rows : faults_of (length names) cert.rows ≡ []
  pub within : unknowns body cert.rows ≤ MOST_UNKNOWNS

-- the system of a program and a certificate's rows
abbrev pub system_with : List (List ℕ) → Statements → Cert → Equations
system_with names body cert = equations_of_program (length names) body cert.rows

-- the certificate of the theory
abbrev pub theirs : Cert → Certificate
theirs cert = certificate_of (length cert.rows) cert

-- the bytes are a valid certificate of the program
pub record IsValidFor (program : Program) (bytes : List ℕ) (names : List (List ℕ)) (body : Statements) (cert : Cert) : Type 0 where
  pub system : IsSystemWith program bytes names body cert
  pub valid : ValidCertificate (system_with names body cert) (theirs cert)

-- no operation of the composition and of the check is wide
pub record NoneIsWide (system : Equations) (certificate : Certificate) : Type 0 where
  pub composition : wide_composition system ≡ None
  pub sums : first_wide long_limit (operations_of (check_events system certificate)) ≡ None

-- the bytes are accepted for the program
abbrev pub IsAccepted : Program → List ℕ → Type 0
IsAccepted program bytes =
    (names : List (List ℕ)) × (body : Statements) × (cert : Cert)
    × IsValidFor program bytes names body cert × NoneIsWide (system_with names body cert) (theirs cert)

-- this is the first failing test of the certificate, and no operation before it is wide
pub record StopsAt (system : Equations) (certificate : Certificate) (fault : Fault) : Type 0 where
  pub first : certificate_fault system certificate ≡ Some fault
  pub composition : wide_composition system ≡ None
  pub stop : first_stop (check_events system certificate) ≡ Some (fault_answer fault)

-- the check is refused by this answer of a test
abbrev pub IsStopped : Equations → Certificate → CheckFault → Type 0
IsStopped system certificate answer = (fault : Fault) × (answer ≡ fault_answer fault) × StopsAt system certificate fault

-- the bytes are refused by this cause
abbrev pub IsRefusedCertificate : Program → List ℕ → CertCause → Type 0
IsRefusedCertificate program bytes (Form fault) = (names : List (List ℕ)) × (body : Statements) × IsAnalysed program names body
    × IsFormFault bytes fault
IsRefusedCertificate program bytes (Rows fault) =
    (names : List (List ℕ)) × (body : Statements) × (cert : Cert) × IsSpelt program bytes names body cert
    × (slice_get (faults_of (length names) cert.rows) 0 ≡ Some fault)
IsRefusedCertificate program bytes (Unknowns count) =
    (names : List (List ℕ)) × (body : Statements) × (cert : Cert) × IsSpelt program bytes names body cert
    × (faults_of (length names) cert.rows ≡ [])
    × (MOST_UNKNOWNS < unknowns body cert.rows) × (count ≡ unknowns body cert.rows)
IsRefusedCertificate program bytes (Check fault) =
    (names : List (List ℕ)) × (body : Statements) × (cert : Cert) × IsSystemWith program bytes names body cert
    × IsStopped (system_with names body cert) (theirs cert) fault

-- the spot is that of the first wide operation of the composition
pub record IsCompositionSpot (system : Equations) (spot : Spot) : Type 0 where
  pub round : spot.round ≡ 0
  pub edge : ℕ
  pub site : spot.site ≡ Compose edge
  pub wide : wide_composition system ≡ Some (edge, operation_of (λ q. q) spot.wide)

-- the spot is that of the operation at which the check stops
pub record IsCheckSpot (system : Equations) (certificate : Certificate) (spot : Spot) : Type 0 where
  pub composition : wide_composition system ≡ None
  pub stop : first_stop (check_events system certificate) ≡ Some (check.Wide spot)

-- the operation of this spot is wide, in the composition or in the check, and nothing before it is refused
abbrev pub IsWideAt : Program → List ℕ → Spot → Type 0
IsWideAt program bytes spot =
    (names : List (List ℕ)) × (body : Statements) × (cert : Cert) × IsSystemWith program bytes names body cert
    × (IsCompositionSpot (system_with names body cert) spot ⊎ IsCheckSpot (system_with names body cert) (theirs cert) spot)

-- the bytes are accepted for the program, by this core, with these rows and this vector of bounds
pub record IsAcceptedWith (program : Program) (bytes : List ℕ) (names : List (List ℕ)) (body : Statements) (rows : List (List ℤ))
    (vector : Vector) : Type 0 where
  pub cert : Cert
  pub rows_are : cert.rows ≡ rows
  pub vector_is : bounds_vector (system_with names body cert) cert.bounds ≡ vector
  pub valid : IsValidFor program bytes names body cert
  pub narrow : NoneIsWide (system_with names body cert) (theirs cert)

-- the bytes spell a certificate with so many rows
pub record HasRowCount (bytes : List ℕ) (count : ℕ) : Type 0 where
  pub cert : WrittenCert
  pub spells : SpellsCert bytes cert
  pub count_is : count ≡ length cert.rows
