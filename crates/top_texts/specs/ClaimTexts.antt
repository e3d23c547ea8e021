-- What texts of claims about a program are, and what is written of them.
use Rattle.std.specs.Prelude.{◌≡◌, ◌≤◌, ◌↔◌, ℕ, ℤ, List, [], Ok, Err, Some, length, map, slice_get, Contains}
use Rattle.std.specs.List.{All}
use Rattle.lang_tree.specs.Runs.{Configuration, IsAt, IsRun}
use Rattle.lang_tree.specs.Tree.{Statements}
use Rattle.lang_tree.specs.View.{condition_of}
use Rattle.flow_edges.specs.declared.point.Point.{Point}
use Rattle.flow_edges.specs.Points.{points_of_program}
use Rattle.flow_systems.specs.declared.system.System.{System}
use Rattle.flow_systems.specs.Equations.{Equations, Least, Vector}
use Rattle.flow_systems.specs.Solutions.{equations_of_program}
use Rattle.flow_systems.specs.States.{RationalState}
use Rattle.ask_claims.specs.Truth.{IsTrueAt}
use Rattle.ask_claims.specs.Claims.{FileMeans, Stands, Stated, stated_of}
use Rattle.ask_claims.specs.declared.claim.Claim.{Claim}
use Rattle.ask_verdicts.specs.Breaking.{BreaksSome, NoneOpen}
use Rattle.ask_verdicts.specs.declared.outcome.Verdict.{Verdict}
use Rattle.ask_verdicts.specs.declared.outcome.Verdict.TheVariants.{Proved, Open}
use Rattle.ask_words.specs.declared.format.Format.{Format}
use Rattle.ask_words.specs.declared.request.Domain.{Domain}
use Rattle.ask_words.specs.declared.request.Policy.{Policy}
use Rattle.top_written.specs.Formats.{claims_in}
use Rattle.top_texts.specs.ByC.{ClaimHoldsInSource}
use Rattle.top_texts.specs.Meanings.{Meanings}
use Rattle.top_texts.specs.Rounds.{HasRounds}
use Rattle.top_texts.specs.Texts.{IsReady, IsRefused, IsSolvedSystem, Program}
use Rattle.top_status.specs.declared.status.TextCause.{TextCause}
use Rattle.top_status.specs.declared.status.TextCause.TheVariants.{Lex, Source as InSource, Flow, Rows, Unknowns, Claims}

-- ---- what the texts are

-- the system of a program and its rows, which is solved, where the text given with them states claims about this program
pub record IsClaimedSystem (program : Program) (rows : Domain (List ℕ)) (given : List ℕ) (system : System) : Type 0 where
  pub solved : IsSolvedSystem program rows system
  pub stated : List Stated
  pub reading : FileMeans given solved.names (points_of_program solved.body) (Ok stated)

-- the texts are refused by this cause: those of a program and its rows as for their analysis, and where these have a system, the text given
-- with them
abbrev pub AreNoClaims : Program → Domain (List ℕ) → List ℕ → TextCause → Type 0
AreNoClaims program rows given (Lex fault) = IsRefused program rows (Lex fault)
AreNoClaims program rows given (InSource fault) = IsRefused program rows (InSource fault)
AreNoClaims program rows given (Flow fault) = IsRefused program rows (Flow fault)
AreNoClaims program rows given (Rows fault) = IsRefused program rows (Rows fault)
AreNoClaims program rows given (Unknowns count) = IsRefused program rows (Unknowns count)
AreNoClaims program rows given (Claims fault) =
    (names : List (List ℕ)) × (body : Statements) × (template : List (List ℤ)) × IsReady program rows names body template
    × FileMeans given names (points_of_program body) (Err fault)
AreNoClaims program rows given _ = ⊥

-- a text states these claims over a program's variables and points: each condition is decided, and comes with the cases in which it may be
-- false
pub record AreClaimsOf (given : List ℕ) (names : List (List ℕ)) (points : List Point) (claims : List Claim) : Type 0 where
  pub reading : FileMeans given names points (Ok (map stated_of claims))
  pub stand : All (Stands names points) claims

-- ---- what is written

-- a claim is true in every run of a program, at every configuration at the claim's point
abbrev pub IsTrueInRuns : ℕ → Statements → Claim → Type 0
IsTrueInRuns variables body claim =
    (run : List Configuration) (now : Configuration) → IsRun variables body run → Contains run now → IsAt now claim.point
    → IsTrueAt (condition_of claim.cond) now.state

-- what verdicts on claims at a vector say of a program: there is one for each claim; a claim is proved exactly where no rational state
-- that fits the vector at the claim's point passes all guards of a case in which the claim may be false; a proved claim is true in every
-- run; an open one comes with such a state
pub record SpeakOfRuns (variables : ℕ) (body : Statements) (system : Equations) (vector : Vector) (claims : List Claim)
    (verdicts : List Verdict) : Type 0 where
  pub one_each : length verdicts ≡ length claims
  pub proved_where : (k : ℕ) (claim : Claim) (verdict : Verdict) → slice_get claims k ≡ Some claim → slice_get verdicts k ≡ Some verdict
      → (verdict ≡ Proved) ↔ NoneOpen system vector claim.point [] claim.against (length claim.against)
  pub proved : (k : ℕ) (claim : Claim) → slice_get claims k ≡ Some claim → slice_get verdicts k ≡ Some Proved
      → IsTrueInRuns variables body claim
  pub open_ones : (k : ℕ) (claim : Claim) (state : RationalState) → slice_get claims k ≡ Some claim
      → slice_get verdicts k ≡ Some (Open state) → BreaksSome system vector claim.point [] claim.against state

-- the bytes are the verdicts on claims about a program, in a format: those of the least vector over a template
pub record AreLeastVerdicts (m : Meanings) (names : List (List ℕ)) (body : Statements) (template : List (List ℤ)) (vector : Vector)
    (claims : List Claim)
    (rounds : ℕ) (format : Format) (bytes : List ℕ) : Type 0 where
  pub least : Least (equations_of_program (length names) body template) vector
  pub verdicts : List Verdict
  pub verdicts_are : m.judges (equations_of_program (length names) body template) vector claims verdicts
  pub speak : SpeakOfRuns (length names) body (equations_of_program (length names) body template) vector claims verdicts
  pub written : bytes ≡ claims_in format names claims verdicts rounds

-- they are those on the claims that a text states about the program of these texts, with the number of improvements by the policy; a
-- proved claim is true in every run by C, too
pub record AreVerdictsOf (m : Meanings) (program : Program) (rows : Domain (List ℕ)) (given : List ℕ) (policy : Policy) (limit : ℕ)
    (format : Format) (bytes : List ℕ) : Type 0 where
  pub system : System
  pub solved : IsSolvedSystem program rows system
  pub claims : List Claim
  pub claims_are : AreClaimsOf given solved.names (points_of_program solved.body) claims
  pub rounds : ℕ
  pub within : rounds ≤ limit
  pub vector : Vector
  pub has_rounds : HasRounds system policy rounds vector
  pub least : AreLeastVerdicts m solved.names solved.body solved.template vector claims rounds format bytes
  pub by_c : (k : ℕ) (claim : Claim) → slice_get claims k ≡ Some claim → slice_get least.verdicts k ≡ Some Proved
      → ClaimHoldsInSource program solved.names claim
