-- A question has one ending.
use Rattle.std.proofs.Common.{◌≡◌, ◌∙◌, sym, ap}
use Rattle.flow_systems.specs.View.{equations_of}
use Rattle.flow_systems.specs.declared.system.System.{System}
use Rattle.top_texts.specs.Questions.{Question, QuestionEnds, is_refused, rounds_end, rounds_spent}
use Rattle.top_status.specs.declared.status.TextCause.{TextCause}
use Rattle.top_status.specs.declared.status.Status.{Status}
use Rattle.top_status.specs.declared.status.Status.TheVariants.{Text}
use Rattle.top_texts.proofs.rounds.OneChain.{ends_once}

-- texts are refused by one cause, or the systems that they mean have the same equations
pub record HasOneMeaning (q : Question) : Type 0 where
  -- texts are refused by one cause
  pub cause : (c d : TextCause) → q.is_refused c → q.is_refused d → c ≡ d
  -- texts that are refused mean no system
  pub apart : (c : TextCause) (s : System) → q.is_refused c → q.means s → ⊥
  -- texts mean systems with the same equations
  pub system : (s t : System) → q.means s → q.means t → equations_of s ≡ equations_of t

module _ (q : Question) (one : HasOneMeaning q) where
  -- a question has one ending
  pub question_ends_once : (s t : Status) → QuestionEnds q s → QuestionEnds q t → s ≡ t
  question_ends_once s t (is_refused c e h) (is_refused d f k) = e ∙ ap (λ x. Text x) (one.cause c d h k) ∙ sym f
  question_ends_once s t (is_refused c e h) (rounds_end y f js x) = absurd (one.apart c y h js)
  question_ends_once s t (is_refused c e h) (rounds_spent y f js x) = absurd (one.apart c y h js)
  question_ends_once s t (rounds_end x e is ends) (is_refused d f k) = absurd (one.apart d x k is)
  question_ends_once s t (rounds_end x e is ends) (rounds_end y f js other) = e ∙ sym f
  question_ends_once s t (rounds_end x e is ends) (rounds_spent y f js out) =
      absurd (ends_once x y q.policy q.limit (one.system x y is js) ends out)
  question_ends_once s t (rounds_spent x e is out) (is_refused d f k) = absurd (one.apart d x k is)
  question_ends_once s t (rounds_spent x e is out) (rounds_end y f js ends) =
      absurd (ends_once y x q.policy q.limit (one.system y x js is) ends out)
  question_ends_once s t (rounds_spent x e is out) (rounds_spent y f js other) = e ∙ sym f
