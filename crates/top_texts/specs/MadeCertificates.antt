-- The certificate that the rounds make of the texts of a program and its rows.
use Rattle.std.specs.Prelude.{◌≡◌, ℕ, ℤ, List, length}
use Rattle.serde_json.specs.Written.{compact_text}
use Rattle.lang_tree.specs.Tree.{Statements}
use Rattle.flow_systems.specs.declared.system.System.{System}
use Rattle.flow_systems.specs.Equations.{Least}
use Rattle.flow_systems.specs.Solutions.{equations_of_program}
use Rattle.flow_systems.specs.View.{vector_of}
use Rattle.theory_validity.specs.Certificates.{ValidCertificate}
use Rattle.cert_text.specs.Certificates.{IsBeyond, IsWithin, SpellsTooMany, cert_data}
use Rattle.cert_fitted.specs.Dense.{dense_cert}
use Rattle.solve_rounds.specs.declared.solution.Solved.{Solved}
use Rattle.solve_rounds.specs.Solutions.{IsSolved, cert_with}
use Rattle.ask_words.specs.declared.request.Domain.{Domain}
use Rattle.ask_words.specs.declared.request.Policy.{Policy}
use Rattle.top_texts.specs.ByC.{HoldsInSource}
use Rattle.top_texts.specs.Checks.{IsValidFor, NoneIsWide, system_with, theirs}
use Rattle.top_texts.specs.Policies.{rule_of}
use Rattle.top_texts.specs.Rounds.{IsSystemFor}
use Rattle.top_texts.specs.Texts.{IsReady, Program}

-- the bytes are the certificate that the rounds make, of the program and the template of these texts; it is valid for the system of the
-- text, no sum of its check is wide, and its bounds are the least vector, which holds in every run by C. Where its traces hold few enough
-- values, the bytes are read as this certificate, and else refused for that
pub record IsCertificateOf (program : Program) (rows : Domain (List ℕ)) (policy : Policy) (limit : ℕ) (bytes : List ℕ) : Type 0 where
  pub names : List (List ℕ)
  pub body : Statements
  pub template : List (List ℤ)
  pub ready : IsReady program rows names body template
  pub system : System
  pub system_for : IsSystemFor names body template system
  pub solved : Solved
  pub is_solved : IsSolved system (rule_of policy) limit solved
  pub written : bytes ≡ compact_text (cert_data (dense_cert (cert_with system solved)))
  pub valid : ValidCertificate (system_with names body (cert_with system solved)) (theirs (cert_with system solved))
  pub narrow : NoneIsWide (system_with names body (cert_with system solved)) (theirs (cert_with system solved))
  pub accepted : IsWithin (dense_cert (cert_with system solved)) → IsValidFor program bytes names body (cert_with system solved)
  pub expands : IsBeyond (dense_cert (cert_with system solved)) → SpellsTooMany bytes
  pub least : Least (equations_of_program (length names) body template) (vector_of (length template) solved.bounds)
  pub by_c : HoldsInSource program names (equations_of_program (length names) body template) (vector_of (length template) solved.bounds)
