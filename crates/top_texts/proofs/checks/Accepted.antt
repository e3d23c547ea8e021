-- A certificate that is accepted for a system is valid for its program, and the report is that of its bounds.
use Rattle.std.proofs.Common.{◌≡◌, ℕ, List, length, refl, sym, ap, ◌∙◌, subst}
use Rattle.std.specs.Prelude.{ℤ}
use Rattle.base_numbers.specs.Extended.{Ext}
use Rattle.lang_tree.specs.Tree.{Statements}
use Rattle.flow_edges.specs.Edges.{edges_of_program}
use Rattle.flow_edges.specs.Points.{points_of_program}
use Rattle.flow_systems.specs.declared.system.System.{System}
use Rattle.flow_systems.specs.declared.footer.Footer.TheVariants.{Accepted}
use Rattle.flow_systems.specs.Equations.{Equations, Least, Vector}
use Rattle.flow_systems.specs.Solutions.{equations_of_program}
use Rattle.flow_systems.specs.View.{equations_of, vector_of}
use Rattle.theory_validity.specs.Certificates.{ValidCertificate, bounds_vector}
use Rattle.cert_types.specs.declared.cert.Cert.{Cert}
use Rattle.ask_words.specs.declared.format.Format.{Format}
use Rattle.top_texts.specs.Checks.{IsSpelt, NoneIsWide, system_with, theirs}
use Rattle.top_texts.specs.Outcomes.{FitsProgram, IsUnaccepted}
use Rattle.top_written.specs.Formats.{report_of_in}
use Rattle.top_texts.specs.Reports.{IsLeastReport, IsReportBy}
use Rattle.top_texts.specs.Texts.{Program}
use Rattle.top_texts.proofs.analyse.Solved.{least_report, same_equations}
use Rattle.top_texts.specs.declared.refusal.Refusal.{Refusal}

-- the vector of a certificate's bounds is that of its list
pub bounds_are : (system : Equations) (bounds : List Ext) → bounds_vector system bounds ≡ vector_of (length system.template) bounds
unfolding bounds_vector
bounds_are system bounds = refl

-- the system of a program's flow and a certificate's rows
pub system_is : (names : List (List ℕ)) (body : Statements) (cert : Cert) (s : System) → s.flow.names ≡ names
    → s.flow.points ≡ points_of_program body → s.flow.edges ≡ edges_of_program body
    → s.template ≡ cert.rows → equations_of s ≡ system_with names body cert
system_is names body cert s n p e t = same_equations names body s n p e ∙ ap (λ rows. equations_of_program (length names) body rows) t

least_with : (program : Program) (names : List (List ℕ)) (body : Statements) (cert : Cert) (template : List (List ℤ)) (v : Vector)
    (format : Format) (bytes : List ℕ) → template ≡ cert.rows → v ≡ bounds_vector (system_with names body cert) cert.bounds
    → IsLeastReport program names body template v Accepted format bytes → IsLeastReport program names body cert.rows
    (bounds_vector (system_with names body cert) cert.bounds) Accepted format bytes
least_with program names body cert template v format bytes t e h =
    subst (λ w. IsLeastReport program names body cert.rows w Accepted format bytes) e
    (subst (λ rows. IsLeastReport program names body rows v Accepted format bytes) t h)

-- an accepted certificate is valid for its program, and the report is that of its bounds
pub accepted_report : (names : List (List ℕ)) (body : Statements) (cert : Cert) (s : System) (format : Format) (bytes : List ℕ)
    (program : Program) (given : List ℕ)
    → s.flow.names ≡ names → s.flow.points ≡ points_of_program body → s.flow.edges ≡ edges_of_program body → s.template ≡ cert.rows
    → FitsProgram names body cert → ValidCertificate (equations_of s) (theirs cert) → NoneIsWide (equations_of s) (theirs cert)
    → Least (equations_of s) (bounds_vector (equations_of s) cert.bounds)
    → bytes ≡ report_of_in format s (vector_of (length s.template) cert.bounds) Accepted
    → IsSpelt program given names body cert → IsReportBy program given format bytes
accepted_report names body cert s format bytes program given n p e t fits valid narrow least report spelt =
    let same : equations_of s ≡ system_with names body cert = system_is names body cert s n p e t in
    let shown : IsLeastReport program names body s.template (vector_of (length s.template) cert.bounds) Accepted format bytes =
    least_report program names body s (vector_of (length s.template) cert.bounds) Accepted format bytes spelt.analysed.has_core n p e
    (subst (λ v. Least (equations_of s) v) (bounds_are (equations_of s) cert.bounds) least) report in
    record {
      names = names;
      body = body;
      cert = cert;
      valid = record {
        system = record { spelt = spelt; rows = fits.rows; within = fits.within };
        valid = subst (λ q. ValidCertificate q (theirs cert)) same valid;
      };
      narrow = subst (λ q. NoneIsWide q (theirs cert)) same narrow;
      least = least_with program names body cert s.template (vector_of (length s.template) cert.bounds) format bytes t
          (ap (λ rows. vector_of (length rows) cert.bounds) t ∙ sym (bounds_are (system_with names body cert) cert.bounds)) shown;
    }

-- a refusal of the system is one of the program and the certificate
pub unaccepted_with : (names : List (List ℕ)) (body : Statements) (cert : Cert) (s : System) (r : Refusal)
    → s.flow.names ≡ names → s.flow.points ≡ points_of_program body → s.flow.edges ≡ edges_of_program body → s.template ≡ cert.rows
    → IsUnaccepted (equations_of s) (theirs cert) r → IsUnaccepted (system_with names body cert) (theirs cert) r
unaccepted_with names body cert s r n p e t h = subst (λ q. IsUnaccepted q (theirs cert) r) (system_is names body cert s n p e t) h
