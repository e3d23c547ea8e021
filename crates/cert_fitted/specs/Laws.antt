-- What fitting a written certificate comes to.
use Rattle.std.specs.Prelude.{◌≡◌, ℕ, List, IsTrue, length, map}
use Rattle.base_numbers.specs.Rational.{ℚ}
use Rattle.flow_systems.specs.Equations.{Equations}
use Rattle.flow_systems.specs.SystemLimits.{is_over}
use Rattle.theory_validity.specs.Certificates.{ValidCertificate}
use Rattle.cert_types.specs.Certificates.{certificate_of}
use Rattle.cert_types.specs.declared.cert.Cert.{Cert}
use Rattle.cert_written.specs.Bare.{bare_cert, bare_entries}
use Rattle.cert_written.specs.Entries.{entries_for}
use Rattle.cert_written.specs.declared.cert.Cert.{Cert as WrittenCert}
use Rattle.cert_written.specs.declared.entries.Entries.{Entries}
use Rattle.cert_written.specs.declared.entries.Entries.TheVariants.{Dense}
use Rattle.cert_fitted.specs.Dense.{dense_cert}
use Rattle.cert_fitted.specs.Fitted.{cert_for, rows_for}

-- a list without its zeros stands for the list, where its length is asked for
abbrev pub ListsComeBack : Type 0
ListsComeBack = (list : List ℚ) → entries_for (length list) (bare_entries (Dense list)) ≡ list

-- rows stand for the same ones without their zeros, where each has the length that is asked for
abbrev pub RowsStayTheSame : Type 0
RowsStayTheSame = (n : ℕ) (rows : List Entries) → IsTrue (is_over n (rows_for n rows))
    → rows_for n (map bare_entries rows) ≡ rows_for n rows

-- a certificate stands for the same one without its zeros, where this one is valid
abbrev pub ValidStayTheSame : Type 0
ValidStayTheSame = (system : Equations) (written : WrittenCert)
    → ValidCertificate system (certificate_of (length system.template) (cert_for system written))
    → cert_for system (bare_cert written) ≡ cert_for system written

-- a certificate that is written with all entries stands for itself with a system of its rows
abbrev pub DenseComeBack : Type 0
DenseComeBack = (system : Equations) (c : Cert) → c.rows ≡ system.template → cert_for system (dense_cert c) ≡ c

-- a valid certificate that is written without zeros stands for itself with the system for which it is valid
abbrev pub ValidComeBack : Type 0
ValidComeBack = (system : Equations) (c : Cert) → c.rows ≡ system.template
    → ValidCertificate system (certificate_of (length system.template) c) → cert_for system (bare_cert (dense_cert c)) ≡ c
