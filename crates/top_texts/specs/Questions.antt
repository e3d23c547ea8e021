-- What is asked about equation systems: of the texts of a program and its rows, of a generated program, of claims about a program, of the
-- checks of a program, of a transition system, and of equations. What is said of each such question, and of its endings, is said here once.
use Rattle.std.specs.Prelude.{◌≡◌, ◌⊎◌, ℕ, List}
use Rattle.base_limits.specs.declared.limits.TheConstants.{MOST_BENCH_IMPROVEMENTS}
use Rattle.flow_systems.specs.declared.spot.Spot.{Spot}
use Rattle.flow_systems.specs.declared.system.System.{System}
use Rattle.ask_words.specs.declared.request.Domain.{Domain}
use Rattle.ask_words.specs.declared.request.Policy.{Policy}
use Rattle.ask_words.specs.declared.request.Policy.TheVariants.{Best}
use Rattle.ask_words.specs.declared.request.Purpose.{Purpose}
use Rattle.ask_words.specs.declared.request.Purpose.TheVariants.{Report}
use Rattle.top_texts.specs.ClaimTexts.{AreNoClaims, IsClaimedSystem}
use Rattle.top_texts.specs.EquationTexts.{IsEquationSystem, IsNoEquations}
use Rattle.top_texts.specs.Meanings.{Meanings}
use Rattle.top_texts.specs.Rounds.{EndsWithin, RunsOut}
use Rattle.top_texts.specs.Texts.{IsRefused, IsSolvedSystem, Program}
use Rattle.top_texts.specs.TransitionTexts.{AreNoTransitions, IsTransitionSystem}
use Rattle.top_status.specs.declared.status.Excess.{Excess}
use Rattle.top_status.specs.declared.status.Excess.TheVariants.{Wide, Large}
use Rattle.top_status.specs.declared.status.Status.{Status}
use Rattle.top_status.specs.declared.status.Status.TheVariants.{Done, Text, Spent}
use Rattle.top_status.specs.declared.status.TextCause.{TextCause}

-- which texts are refused, by which cause; which system they mean otherwise; what exceeds exact work on the way; by which policy
-- improvements over the system are made, and at most how many
pub record Question : Type 1 where
  pub is_refused : TextCause → Type 0
  pub means : System → Type 0
  pub exceeds : System → Excess → Type 0
  pub policy : Policy
  pub limit : ℕ

-- texts are refused by a cause, or mean a system over which the improvements end within the limit, or are spent; this is the ending where
-- nothing fails outside, there is memory, and nothing exceeds exact work
pub data QuestionEnds (question : Question) (ending : Status) : Type 0 where
  is_refused : (cause : TextCause) → ending ≡ Text cause → question.is_refused cause → QuestionEnds question ending
  rounds_end : (system : System) → ending ≡ Done → question.means system → EndsWithin system question.policy question.limit
      → QuestionEnds question ending
  rounds_spent : (system : System) → ending ≡ Spent question.limit → question.means system → RunsOut system question.policy question.limit
      → QuestionEnds question ending

-- this exceeds exact work on the way
pub record IsExcessIn (question : Question) (excess : Excess) : Type 0 where
  pub system : System
  pub meant : question.means system
  pub exceeds : question.exceeds system excess

-- what exceeds is an operation that is too wide, by these spots; never a joint problem
abbrev pub IsOnlyWide : (Spot → Type 0) → Excess → Type 0
IsOnlyWide is_wide (Wide spot) = is_wide spot
IsOnlyWide is_wide (Large cells) = ⊥

-- ---- the questions

-- the analysis of a program over the rows of a domain, for its report or for its certificate
abbrev pub analysis_question : Meanings → Purpose → Program → Domain (List ℕ) → Policy → ℕ → Question
analysis_question m purpose program rows policy limit = record {
  is_refused = λ cause. IsRefused program rows cause;
  means = λ system. IsSolvedSystem program rows system;
  exceeds = λ system excess. m.exceeds purpose system policy limit excess;
  policy = policy;
  limit = limit;
}

-- the analysis of a generated program over intervals; its joint problems are small
abbrev pub bench_question : Meanings → (seed loops : ℕ) → Question
bench_question m seed loops = record {
  is_refused = λ cause. ⊥;
  means = λ system. m.generates seed loops system;
  exceeds = λ system excess. IsOnlyWide (λ spot. m.exceeds Report system Best MOST_BENCH_IMPROVEMENTS (Wide spot)) excess;
  policy = Best;
  limit = MOST_BENCH_IMPROVEMENTS;
}

-- what the least bounds of a program over the rows of a domain say of claims
abbrev pub claims_question : Meanings → Program → Domain (List ℕ) → (given : List ℕ) → Policy → ℕ → Question
claims_question m program rows given policy limit = record {
  is_refused = λ cause. AreNoClaims program rows given cause;
  means = λ system. IsClaimedSystem program rows given system;
  exceeds = λ system excess.
      m.exceeds Report system policy limit excess ⊎ IsOnlyWide (λ spot. m.too_wide_for given system policy limit spot) excess;
  policy = policy;
  limit = limit;
}

-- what the least bounds of a program over the rows of a domain say of its checks
abbrev pub checks_question : Meanings → Program → Domain (List ℕ) → Policy → ℕ → Question
checks_question m program rows policy limit = record {
  is_refused = λ cause. IsRefused program rows cause;
  means = λ system. IsSolvedSystem program rows system;
  exceeds = λ system excess.
      m.exceeds Report system policy limit excess ⊎ IsOnlyWide (λ spot. m.too_wide_at program system policy limit spot) excess;
  policy = policy;
  limit = limit;
}

-- the analysis of a transition system over the rows of a domain
abbrev pub transitions_question : Meanings → (text : List ℕ) → Domain (List ℕ) → Policy → ℕ → Question
transitions_question m text rows policy limit = record {
  is_refused = λ cause. AreNoTransitions text rows cause;
  means = λ system. IsTransitionSystem text rows system;
  exceeds = λ system excess. m.exceeds Report system policy limit excess;
  policy = policy;
  limit = limit;
}

-- the least solution of equations, whose joint problems are small
abbrev pub equations_question : Meanings → (text : List ℕ) → Policy → ℕ → Question
equations_question m text policy limit = record {
  is_refused = λ cause. IsNoEquations text cause;
  means = λ system. IsEquationSystem text system;
  exceeds = λ system excess. IsOnlyWide (λ spot. m.exceeds Report system policy limit (Wide spot)) excess;
  policy = policy;
  limit = limit;
}
