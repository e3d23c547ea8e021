-- What is answered to a question: where rounds have no end, and where texts are refused.
use Rattle.std.proofs.Common.{◌≡◌, sym, ap, subst}
use Rattle.flow_systems.specs.declared.system.System.{System}
use Rattle.ask_words.specs.declared.request.Purpose.{Purpose}
use Rattle.top_texts.specs.Outcomes.{IsHalted, IsUnanswered, QuestionAnswer, refused}
use Rattle.top_texts.specs.Questions.{Question, rounds_spent}
use Rattle.top_texts.specs.Spots.{HasExcess}
use Rattle.top_texts.specs.declared.refusal.Refusal.{Refusal}
use Rattle.top_texts.specs.declared.refusal.Refusal.TheVariants as refusal
use Rattle.top_status.specs.declared.status.Excess.{Excess}
use Rattle.top_status.specs.declared.status.Status.{Status}
use Rattle.top_status.specs.declared.status.Status.TheVariants.{Spent}

module _ (q : Question) where
  refused_answer : (r : Refusal) → IsUnanswered q r → QuestionAnswer q (refused r)
  refused_answer (refusal.Text cause) h = h
  refused_answer (refusal.Certificate cause) h = absurd h
  refused_answer (refusal.Exceeded excess) h = h
  refused_answer (refusal.Spent n) h = h
  refused_answer refusal.NoMemory h = tt

  -- a question that a refusal leaves unanswered is answered with its status
  pub unanswered : (r : Refusal) (s : Status) → s ≡ refused r → IsUnanswered q r → QuestionAnswer q s
  unanswered r s e h = subst (λ x. QuestionAnswer q x) (sym e) (refused_answer r h)

  -- rounds over a system that is meant have no end
  pub halted : (purpose : Purpose) (system : System) → q.means system →
      ((excess : Excess) → HasExcess purpose system q.policy q.limit excess → q.exceeds system excess)
      → (r : Refusal) → IsHalted purpose system q.policy q.limit r → IsUnanswered q r
  halted purpose system is exceeds (refusal.Text cause) h = absurd h
  halted purpose system is exceeds (refusal.Certificate cause) h = absurd h
  halted purpose system is exceeds (refusal.Exceeded excess) h = record { system = system; meant = is; exceeds = exceeds excess h }
  halted purpose system is exceeds (refusal.Spent n) h = rounds_spent system (ap Spent h.1) is h.0
  halted purpose system is exceeds refusal.NoMemory h = tt
