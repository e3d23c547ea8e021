-- A written certificate and the one for which it stands with a program.
use Rattle.std.proofs.Common.{◌≡◌, ◌∙◌, inr, ℕ, List, length, refl, sym, ap, subst, IsTrue}
use Rattle.lang_tree.specs.Tree.{Statements}
use Rattle.flow_edges.specs.Edges.{edges_of_program}
use Rattle.flow_edges.specs.Points.{points_of_program}
use Rattle.flow_systems.specs.SystemLimits.{is_over}
use Rattle.flow_systems.specs.declared.system.System.{System}
use Rattle.flow_systems.specs.declared.footer.Footer.TheVariants.{Accepted}
use Rattle.flow_systems.specs.Equations.{Least}
use Rattle.flow_systems.specs.Solutions.{equations_of_program}
use Rattle.flow_systems.specs.View.{equations_of, vector_of}
use Rattle.theory_validity.specs.Certificates.{ValidCertificate, bounds_vector}
use Rattle.cert_types.specs.declared.cert.Cert.{Cert}
use Rattle.cert_written.specs.Bare.{bare_cert}
use Rattle.cert_written.specs.declared.cert.Cert.{Cert as WrittenCert}
use Rattle.cert_fitted.specs.Dense.{dense_cert}
use Rattle.cert_fitted.specs.Fitted.{cert_for, rows_for}
use Rattle.cert_fitted.proofs.fitted_laws.Evidence.{valid_back}
use Rattle.cert_fitted.proofs.fitted_laws.Lists.{rows_back}
use Rattle.ask_words.specs.declared.format.Format.{Format}
use Rattle.top_written.specs.Formats.{report_of_in}
use Rattle.top_texts.specs.Checks.{IsSpelt, NoneIsWide, fitted_to, system_with, theirs}
use Rattle.top_texts.specs.Outcomes.{FitsProgram, GetsNoReport, IsUnaccepted}
use Rattle.top_texts.specs.Reports.{IsReportBy}
use Rattle.top_texts.specs.Texts.{Program}
use Rattle.top_texts.specs.declared.refusal.Refusal.{Refusal}
use Rattle.top_texts.proofs.checks.Accepted.{accepted_report, system_is, unaccepted_with}

-- a valid certificate that is written without zeros stands for itself with its program
pub valid_fitted : (names : List (List ℕ)) (body : Statements) (cert : Cert) → IsTrue (is_over (length names) cert.rows)
    → ValidCertificate (system_with names body cert) (theirs cert) → cert ≡ fitted_to names body (bare_cert (dense_cert cert))
valid_fitted names body cert over valid =
    sym (ap (λ rows. cert_for (equations_of_program (length names) body rows) (bare_cert (dense_cert cert)))
    (rows_back (length names) cert.rows over) ∙ valid_back (system_with names body cert) cert refl valid)

module _ (names : List (List ℕ)) (body : Statements) (written : WrittenCert) (s : System) (n : s.flow.names ≡ names)
    (p : s.flow.points ≡ points_of_program body) (e : s.flow.edges ≡ edges_of_program body)
    (t : s.template ≡ rows_for (length names) written.rows) where
  abbrev whole : Cert
  whole = fitted_to names body written

  fitted_same : cert_for (equations_of s) written ≡ whole
  fitted_same = ap (λ q. cert_for q written) (system_is names body whole s n p e t)

  -- a certificate that is accepted gets a report
  pub accepted_fitted : (format : Format) (bytes : List ℕ) (program : Program) (given : List ℕ) → FitsProgram names body whole
      → ValidCertificate (equations_of s) (theirs (cert_for (equations_of s) written))
      → NoneIsWide (equations_of s) (theirs (cert_for (equations_of s) written))
      → Least (equations_of s) (bounds_vector (equations_of s) written.bounds)
      → bytes ≡ report_of_in format s (vector_of (length s.template) written.bounds) Accepted
      → IsSpelt program given names body whole → IsReportBy program given format bytes
  accepted_fitted format bytes program given fits valid narrow least report spelt =
      accepted_report names body whole s format bytes program given n p e t fits
      (subst (λ (x : Cert). ValidCertificate (equations_of s) (theirs x)) fitted_same valid)
      (subst (λ (x : Cert). NoneIsWide (equations_of s) (theirs x)) fitted_same narrow) least report spelt

  -- one that isn't accepted gets none
  pub refused_fitted : (r : Refusal) → FitsProgram names body whole
      → IsUnaccepted (equations_of s) (theirs (cert_for (equations_of s) written)) r → GetsNoReport names body whole r
  refused_fitted r fits h =
      inr (
        fits,
        unaccepted_with names body whole s r n p e t
            (subst (λ (x : Cert). IsUnaccepted (equations_of s) (theirs x) r) fitted_same h),
      )
