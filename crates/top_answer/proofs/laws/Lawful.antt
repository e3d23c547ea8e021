-- Laws of what answers mean, by the exact meanings.
use Rattle.std.proofs.Common.{◌≡◌, ◌∙◌, ℕ, List, length, ap, sym, subst, arith}
use Rattle.std.specs.Prelude.{ℤ}
use Rattle.serde_json.specs.Written.{compact_text}
use Rattle.lang_tree.specs.Tree.{Statements}
use Rattle.flow_edges.proofs.edges.Ranges.{ranges_law}
use Rattle.flow_systems.specs.Equations.{Least, Vector}
use Rattle.flow_systems.specs.Solutions.{equations_of_program}
use Rattle.theory_validity.specs.Certificates.{PointsInRange, bounds_vector}
use Rattle.theory_validity.proofs.steps.CertificateLaw.{certificate_least}
use Rattle.cert_text.specs.Certificates.{SpellsTooMany, cert_data}
use Rattle.cert_text.proofs.form_laws.Laws.{one_reading}
use Rattle.ask_words.specs.declared.format.Format.{Format}
use Rattle.top_answer.specs.Commands.{IsChecked}
use Rattle.top_texts.specs.Checks.{IsAcceptedWith, system_with, theirs}
use Rattle.top_texts.specs.Exact.{exact}
use Rattle.top_texts.specs.Texts.{Program}
use Rattle.top_texts.specs.Upgrades.{IsUpgradeOf}
use Rattle.top_texts.proofs.checks.Upgraded.{upgraded_accepted}

-- the edges of a program end at its points
program_range : (variables : ℕ) (body : Statements) (rows : List (List ℤ)) → PointsInRange (equations_of_program variables body rows)
program_range variables body rows = record { entry = omega arith; ends = λ edge c. (ranges_law body edge c).to }

-- the vector of an accepted certificate is the least one of its program
pub accepted_least : (program : Program) (bytes : List ℕ) (names : List (List ℕ)) (body : Statements) (rows : List (List ℤ))
    (vector : Vector)
    → IsAcceptedWith program bytes names body rows vector
    → Least (equations_of_program (length names) body rows) vector
accepted_least program bytes names body rows vector a =
    let system = system_with names body a.cert in
    let least : Least system (bounds_vector system a.cert.bounds) = certificate_least system (theirs a.cert)
    (program_range (length names) body a.cert.rows) a.valid.valid in
    subst (λ r. Least (equations_of_program (length names) body r) vector) a.rows_are (subst (λ v. Least system v) a.vector_is least)

-- the text of the certificate that bytes spell
pub one_upgrade : (bytes one other : List ℕ) → IsUpgradeOf bytes one → IsUpgradeOf bytes other → one ≡ other
one_upgrade bytes one other h k = h.text ∙ ap (λ c. compact_text (cert_data c)) (one_reading bytes h.cert k.cert h.spells k.spells)
    ∙ sym k.text

-- what is accepted has the same report as it is upgraded
pub upgraded_report : (program : Program) (certificate written : List ℕ) (format : Format) (bytes : List ℕ)
    → IsUpgradeOf certificate written → (SpellsTooMany written → ⊥)
    → IsChecked exact program certificate format bytes → IsChecked exact program written format bytes
upgraded_report program certificate written format bytes u short c = record {
  names = c.names;
  body = c.body;
  rows = c.rows;
  vector = c.vector;
  accepted = upgraded_accepted program certificate written c.names c.body c.rows c.vector u short c.accepted;
  least = c.least;
}
