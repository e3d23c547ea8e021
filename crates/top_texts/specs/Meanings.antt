-- What the parts around the least bounds mean: an interface, which the contract of a run speaks of. Who implements it says each meaning.
use Rattle.std.specs.Prelude.{ℕ, ℤ, List}
use Rattle.lang_tree.specs.Tree.{Statements}
use Rattle.flow_edges.specs.declared.checked.CheckCases.{CheckCases}
use Rattle.flow_systems.specs.declared.spot.Spot.{Spot}
use Rattle.flow_systems.specs.declared.system.System.{System}
use Rattle.flow_systems.specs.Equations.{Equations, Vector}
use Rattle.ask_claims.specs.declared.claim.Claim.{Claim}
use Rattle.ask_verdicts.specs.declared.outcome.Verdict.{Verdict}
use Rattle.ask_words.specs.declared.request.Domain.{Domain}
use Rattle.ask_words.specs.declared.request.Policy.{Policy}
use Rattle.ask_words.specs.declared.request.Purpose.{Purpose}
use Rattle.cert_text.specs.declared.fault.FormFault.{FormFault}
use Rattle.top_status.specs.declared.status.CertCause.{CertCause}
use Rattle.top_status.specs.declared.status.Excess.{Excess}
use Rattle.top_status.specs.declared.status.Status.{Status}
use Rattle.top_texts.specs.Texts.{Program}

-- The solver: what exceeds exact work in the analysis of a system, by policy and limit; where an operation for the claims of a text, or for
-- the checks of a program, is too wide; and which bytes are the certificate that its rounds make of texts.
-- The checker: which bytes are a certificate of a program that it accepts, with its core, the rows and the vector of bounds; by which cause
-- it refuses them, at which operation they are too wide; and how many rows a certificate has.
-- The form of certificates: by which fault bytes spell none; and which bytes are written of the certificate that bytes spell.
-- The judge: which verdicts are given on claims at a vector of a system, and which on checks, with the state that is shown of an open one.
-- The generator: the system of a seed and so many loops, and the summary of a vector of it after so many improvements.
-- The messages: the text of each ending by a line and a number of rows; the line that it names in a text, and the rows that it counts by
-- where each point has so many.
pub record Meanings : Type 1 where
  pub exceeds : Purpose → System → Policy → ℕ → Excess → Type 0
  pub too_wide_for : (given : List ℕ) → System → Policy → ℕ → Spot → Type 0
  pub too_wide_at : Program → System → Policy → ℕ → Spot → Type 0
  pub certifies : Program → Domain (List ℕ) → Policy → ℕ → List ℕ → Type 0
  pub accepts : Program → (bytes : List ℕ) → List (List ℕ) → Statements → List (List ℤ) → Vector → Type 0
  pub refuses : Program → (bytes : List ℕ) → CertCause → Type 0
  pub is_wide_in : Program → (bytes : List ℕ) → Spot → Type 0
  pub has_rows : List ℕ → ℕ → Type 0
  pub misspells : List ℕ → FormFault → Type 0
  pub upgrades : (bytes written : List ℕ) → Type 0
  pub judges : Equations → Vector → List Claim → List Verdict → Type 0
  pub verifies : Equations → Vector → List CheckCases → List Verdict → Type 0
  pub generates : (seed loops : ℕ) → System → Type 0
  pub summary : (seed loops : ℕ) → System → Vector → ℕ → List ℕ
  pub message : (line rows : ℕ) → Status → List ℕ
  pub line_named : List ℕ → Status → ℕ
  pub rows_named : ℕ → Status → ℕ
