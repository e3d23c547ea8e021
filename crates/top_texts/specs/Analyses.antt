-- The least bounds of texts, for other outputs than their report; and the endings that there are else, which are those of the report.
use Rattle.std.specs.Prelude.{◌≡◌, ◌≤◌, ℕ, IsTrue, List, length}
use Rattle.flow_systems.specs.Equations.{Least}
use Rattle.flow_systems.specs.View.{IsVectorOf, equations_of, vector_at}
use Rattle.flow_systems.specs.declared.system.System.{System}
use Rattle.ask_words.specs.declared.request.Domain.{Domain}
use Rattle.ask_words.specs.declared.request.Policy.{Policy}
use Rattle.ask_words.specs.declared.request.Purpose.TheVariants.{Report}
use Rattle.top_status.specs.CheckMessages.{rows_of}
use Rattle.top_status.specs.Status.{has_output}
use Rattle.top_texts.specs.Exact.{exact}
use Rattle.top_status.specs.Messages.{line_in}
use Rattle.top_texts.specs.Outcomes.{IsAnswerToSystem, QuestionAnswer}
use Rattle.top_texts.specs.Questions.{analysis_question}
use Rattle.top_texts.specs.Rounds.{HasRounds}
use Rattle.top_texts.specs.Texts.{IsSolvedSystem, Program}
use Rattle.top_texts.specs.declared.analyse.least.LeastBounds.{LeastBounds}
use Rattle.top_status.specs.declared.ending.Ending.{Ending}
use Rattle.top_status.specs.declared.status.Status.{Status}
use Rattle.top_status.specs.declared.status.Status.TheVariants.{Write}

-- the least bounds of a system, where the improvements by the policy end within the limit
pub record IsSolvedBy (system : System) (policy : Policy) (limit : ℕ) (bounds : LeastBounds) : Type 0 where
  pub same : bounds.system ≡ system
  pub within : bounds.solved.improvements ≤ limit
  pub has_rounds : HasRounds system policy bounds.solved.improvements (vector_at system bounds.solved.bounds)
  pub least : Least (equations_of system) (vector_at system bounds.solved.bounds)
  pub count : IsVectorOf system bounds.solved.bounds

-- the least bounds of a program over these rows
pub record IsFoundIn (program : Program) (rows : Domain (List ℕ)) (policy : Policy) (limit : ℕ) (bounds : LeastBounds) : Type 0 where
  pub solved : IsSolvedSystem program rows bounds.system
  pub within : bounds.solved.improvements ≤ limit
  pub has_rounds : HasRounds bounds.system policy bounds.solved.improvements (vector_at bounds.system bounds.solved.bounds)
  pub least : Least (equations_of bounds.system) (vector_at bounds.system bounds.solved.bounds)
  pub count : IsVectorOf bounds.system bounds.solved.bounds

-- nothing was put, and nothing was to be put
pub record IsUnput (status : Status) : Type 0 where
  pub undone : IsTrue (has_output status) → ⊥
  pub unwritten : status ≡ Write → ⊥

-- the ending where the improvements over a system don't end, or something exceeds exact work
pub record IsHaltedEnding (system : System) (policy : Policy) (limit : ℕ) (ending : Ending) : Type 0 where
  pub answer : IsAnswerToSystem Report system policy limit ending.status
  pub unput : IsUnput ending.status
  pub line : ending.line ≡ 0
  pub rows_named : ending.rows ≡ rows_of (length system.template) ending.status

-- the ending where a program over rows has no least bounds; the line and the rows of its message are those of the report's
pub record IsRefusedText (program : Program) (rows : Domain (List ℕ)) (policy : Policy) (limit : ℕ) (ending : Ending) : Type 0 where
  pub answer : QuestionAnswer (analysis_question exact Report program rows policy limit) ending.status
  pub unput : IsUnput ending.status
  pub line : ending.line ≡ line_in program.text ending.status
  pub rows_named : (system : System) → IsSolvedSystem program rows system → ending.rows ≡ rows_of (length system.template) ending.status
