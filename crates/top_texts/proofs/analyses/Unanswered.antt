-- Why texts of a program have no report and no certificate.
use Rattle.std.proofs.Common.{ℕ, List}
use Rattle.flow_systems.specs.declared.system.System.{System}
use Rattle.ask_words.specs.declared.request.Domain.{Domain}
use Rattle.ask_words.specs.declared.request.Policy.{Policy}
use Rattle.ask_words.specs.declared.request.Purpose.{Purpose}
use Rattle.top_texts.specs.Exact.{exact}
use Rattle.top_texts.specs.Outcomes.{IsHalted, IsRefusedBy, IsUnanswered}
use Rattle.top_texts.specs.Questions.{analysis_question}
use Rattle.top_texts.specs.Texts.{IsSolvedSystem, Program}
use Rattle.top_texts.specs.declared.refusal.Refusal.{Refusal}
use Rattle.top_texts.specs.declared.refusal.Refusal.TheVariants as refusal
use Rattle.top_texts.proofs.questions.Answered.{halted}

module _ (purpose : Purpose) (program : Program) (rows : Domain (List ℕ)) (policy : Policy) (limit : ℕ) where
  -- texts that are refused before there is a system
  pub unsystematic : (r : Refusal) → IsRefusedBy program rows r → IsUnanswered (analysis_question exact purpose program rows policy limit) r
  unsystematic (refusal.Text cause) h = h
  unsystematic (refusal.Certificate cause) h = absurd h
  unsystematic (refusal.Exceeded excess) h = absurd h
  unsystematic (refusal.Spent n) h = absurd h
  unsystematic refusal.NoMemory h = tt

  -- rounds over their system that have no end
  pub unsolved : (s : System) → IsSolvedSystem program rows s → (r : Refusal) → IsHalted purpose s policy limit r
      → IsUnanswered (analysis_question exact purpose program rows policy limit) r
  unsolved s is r h = halted (analysis_question exact purpose program rows policy limit) purpose s is (λ excess h. h) r h
