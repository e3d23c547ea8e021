-- What is written of texts: reports of least vectors, certificates of them, and the summary of a generated program.
use Rattle.std.specs.Prelude.{◌≡◌, ◌≤◌, ℕ, List, length}
use Rattle.base_limits.specs.declared.limits.TheConstants.{MOST_BENCH_IMPROVEMENTS}
use Rattle.lang_tree.specs.Tree.{Statements}
use Rattle.flow_templates.specs.Domains.{intervals_of}
use Rattle.flow_systems.specs.declared.footer.Footer.TheVariants.{Accepted}
use Rattle.flow_systems.specs.declared.system.System.{System}
use Rattle.flow_systems.specs.Equations.{Least, Vector}
use Rattle.flow_systems.specs.Solutions.{equations_of_program}
use Rattle.theory_validity.specs.Certificates.{bounds_vector}
use Rattle.cert_types.specs.declared.cert.Cert.{Cert}
use Rattle.out_workload.specs.Bodies.{generated_body}
use Rattle.out_workload.specs.Summaries.{summary_of}
use Rattle.out_workload.specs.Texts.{generated_text}
use Rattle.ask_words.specs.declared.format.Format.{Format}
use Rattle.ask_words.specs.declared.request.Domain.{Domain}
use Rattle.ask_words.specs.declared.request.Policy.{Policy}
use Rattle.ask_words.specs.declared.request.Policy.TheVariants.{Best}
use Rattle.top_texts.specs.Checks.{IsValidFor, NoneIsWide, system_with, theirs}
use Rattle.top_texts.specs.Generated.{IsGenerated}
pub use Rattle.top_texts.specs.LeastReports.{IsLeastReport, IsReportOf}
pub use Rattle.top_texts.specs.MadeCertificates.{IsCertificateOf}
use Rattle.top_texts.specs.Rounds.{HasRounds}
use Rattle.top_texts.specs.Texts.{Program}
use Rattle.ask_words.specs.declared.request.Purpose.{Purpose}
use Rattle.ask_words.specs.declared.request.Purpose.TheVariants.{Report, Certificate}

-- the bytes are the summary of a generated program, whose text means it: of its least vector over intervals, with the number of
-- improvements by `best`
pub record IsSummaryOf (seed loops : ℕ) (bytes : List ℕ) : Type 0 where
  pub system : System
  pub generated : IsGenerated seed loops system
  pub rounds : ℕ
  pub within : rounds ≤ MOST_BENCH_IMPROVEMENTS
  pub vector : Vector
  pub has_rounds : HasRounds system Best rounds vector
  pub least : Least (equations_of_program 3 (generated_body seed loops) (intervals_of 3)) vector
  pub summary : bytes ≡ summary_of seed loops (length (generated_text seed loops)) system vector rounds

-- they are that of a certificate's bounds, where it is valid for a program
pub record IsReportBy (program : Program) (certificate : List ℕ) (format : Format) (bytes : List ℕ) : Type 0 where
  pub names : List (List ℕ)
  pub body : Statements
  pub cert : Cert
  pub valid : IsValidFor program certificate names body cert
  pub narrow : NoneIsWide (system_with names body cert) (theirs cert)
  pub least : IsLeastReport program names body cert.rows (bounds_vector (system_with names body cert) cert.bounds) Accepted format bytes

-- what is put of an analysis; a certificate has one format
abbrev pub IsPutOf : Purpose → Program → Domain (List ℕ) → Policy → ℕ → Format → List ℕ → Type 0
IsPutOf Report program rows policy limit format bytes = IsReportOf program rows policy limit format bytes
IsPutOf Certificate program rows policy limit format bytes = IsCertificateOf program rows policy limit bytes
