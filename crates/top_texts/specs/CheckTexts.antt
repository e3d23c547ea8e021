-- What the checks of a program's text come to at its least vector, and what is written of them.
use Rattle.std.specs.Prelude.{◌≡◌, ◌≤◌, ◌↔◌, ℕ, Bool, true, false, IsTrue, List, Some, length, slice_get, Contains}
use Rattle.lang_tree.specs.declared.check.Check.{Check}
use Rattle.lang_tree.specs.Limits.{is_program}
use Rattle.lang_tree.specs.Runs.{CheckIsTrue, Configuration, IsRun}
use Rattle.lang_tree.specs.Tree.{Statements}
use Rattle.flow_edges.specs.Checks.{Checked, checks_in, checks_of_program, with_cases}
use Rattle.flow_edges.specs.declared.checked.CheckCases.{CheckCases}
use Rattle.flow_systems.specs.Equations.{Equations, Least, Vector}
use Rattle.flow_systems.specs.Solutions.{equations_of_program}
use Rattle.flow_systems.specs.States.{RationalState}
use Rattle.flow_systems.specs.declared.system.System.{System}
use Rattle.ask_verdicts.specs.declared.outcome.Verdict.{Verdict}
use Rattle.ask_verdicts.specs.declared.outcome.Verdict.TheVariants as verdict
use Rattle.ask_checks.specs.Places.{BreaksCheck, NoneBreaksCheck}
use Rattle.ask_words.specs.declared.format.Format.{Format}
use Rattle.ask_words.specs.declared.request.Domain.{Domain}
use Rattle.ask_words.specs.declared.request.Policy.{Policy}
use Rattle.top_written.specs.Formats.{checks_in as checks_written}
use Rattle.top_texts.specs.ByC.{AreProved, CheckHoldsInSource, OperationsAreProved, OperationsHaveValues, RunsAreByAll}
use Rattle.top_texts.specs.Meanings.{Meanings}
use Rattle.top_texts.specs.Rounds.{HasRounds}
use Rattle.top_texts.specs.Texts.{IsSolvedSystem, Program}
use Rattle.top_status.specs.declared.status.Status.{Status}
use Rattle.top_status.specs.declared.status.Status.TheVariants.{Done, Open}

-- ---- at a vector of a program's system

-- no state breaks any check of the program at one of its places
abbrev pub AllProved : Statements → Equations → Vector → Type 0
AllProved body system vector = (check : Checked) → Contains (checks_in body) check → NoneBreaksCheck system vector (with_cases check)

-- a state breaks a check of the program at one of its places
pub record SomeOpen (body : Statements) (system : Equations) (vector : Vector) : Type 0 where
  pub check : Checked
  pub among : Contains (checks_in body) check
  pub state : RationalState
  pub breaks : BreaksCheck system vector (with_cases check) state

-- the ending that the checks decide
pub data ChecksEnd (body : Statements) (system : Equations) (vector : Vector) (ending : Status) : Type 0 where
  all_proved : ending ≡ Done → AllProved body system vector → ChecksEnd body system vector ending
  some_open : ending ≡ Open → SomeOpen body system vector → ChecksEnd body system vector ending

-- a check of a program is true in every run of it
abbrev pub IsTrueInEachRun : ℕ → Statements → Checked → Type 0
IsTrueInEachRun variables body check = (run : List Configuration) → IsRun variables body run → CheckIsTrue check.about check.cond run

-- what verdicts on the checks of a program say of it at a vector: there is one for each check, in order of the text; a check is proved
-- exactly where no state breaks it at any of its places; a proved check is true in every run; an open one comes with a state that breaks it
-- at one of its places
pub record SpeakOfChecks (variables : ℕ) (body : Statements) (system : Equations) (vector : Vector) (verdicts : List Verdict) : Type 0 where
  pub one_each : length verdicts ≡ length (checks_in body)
  pub proved_where : (k : ℕ) (check : Checked) (said : Verdict) → slice_get (checks_in body) k ≡ Some check
      → slice_get verdicts k ≡ Some said → (said ≡ verdict.Proved) ↔ NoneBreaksCheck system vector (with_cases check)
  pub proved : (k : ℕ) (check : Checked) → slice_get (checks_in body) k ≡ Some check → slice_get verdicts k ≡ Some verdict.Proved
      → IsTrueInEachRun variables body check
  pub open_ones : (k : ℕ) (check : Checked) (state : RationalState) → slice_get (checks_in body) k ≡ Some check
      → slice_get verdicts k ≡ Some (verdict.Open state) → BreaksCheck system vector (with_cases check) state

-- ---- of texts

-- these are the checks of the program of these texts, which has this system, and is within the limits of programs
pub record HasChecks (program : Program) (rows : Domain (List ℕ)) (system : System) (checks : List CheckCases) : Type 0 where
  pub solved : IsSolvedSystem program rows system
  pub checks_are : checks ≡ checks_of_program solved.body
  pub within : IsTrue (is_program (length solved.names) solved.body)

-- the ending by whether a check is open
abbrev pub ending_of : Bool → Status
ending_of true = Open
ending_of false = Done

-- the improvements by the policy over the system of these texts end within the limit, at its least vector, and there the checks of the
-- program decide this ending
pub record IsJudged (program : Program) (rows : Domain (List ℕ)) (policy : Policy) (limit : ℕ) (ending : Status) : Type 0 where
  pub system : System
  pub solved : IsSolvedSystem program rows system
  pub rounds : ℕ
  pub within : rounds ≤ limit
  pub vector : Vector
  pub has_rounds : HasRounds system policy rounds vector
  pub least : Least (equations_of_program (length solved.names) solved.body solved.template) vector
  pub ends : ChecksEnd solved.body (equations_of_program (length solved.names) solved.body solved.template) vector ending

-- the bytes are the verdicts of this vector on the checks of the program, which is in the file of this name, in a format, with the number
-- of improvements; of an open one's state they tell the values of the program's variables, and none of a hidden one. Where the checks that
-- are about a place are proved, no run by C breaks the place's check; and where the ending is `Done`, none breaks any. Where the checks of
-- all operations are proved, each has a value in every run by C: none overflows, none divides by 0, and each element is there. Each run by
-- C
-- is one by all integers: by a machine's integers, it goes up to the first operation that overflows
pub record AreCheckVerdictsOf (m : Meanings) (file : List ℕ) (program : Program) (rows : Domain (List ℕ)) (policy : Policy) (limit : ℕ)
    (format : Format) (ending : Status) (bytes : List ℕ) : Type 0 where
  pub judged : IsJudged program rows policy limit ending
  pub verdicts : List Verdict
  pub verdicts_are : m.verifies
      (equations_of_program (length judged.solved.names) judged.solved.body judged.solved.template) judged.vector
      (checks_of_program judged.solved.body) verdicts
  pub speak : SpeakOfChecks (length judged.solved.names) judged.solved.body
      (equations_of_program (length judged.solved.names) judged.solved.body judged.solved.template) judged.vector verdicts
  pub by_c : (about : Check) → AreProved judged.solved.body verdicts about → CheckHoldsInSource program judged.solved.names about
  pub all_by_c : ending ≡ Done → (about : Check) → CheckHoldsInSource program judged.solved.names about
  pub operations_by_c : OperationsAreProved judged.solved.body verdicts → OperationsHaveValues program judged.solved.names
  pub runs_by_all : RunsAreByAll program judged.solved.names
  pub written : bytes ≡ checks_written format file program.text judged.solved.names (checks_of_program judged.solved.body) verdicts
      judged.rounds
