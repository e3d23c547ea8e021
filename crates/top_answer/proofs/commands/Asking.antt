-- A command that asks a question of one meaning is lawful.
use Rattle.std.proofs.Common.{ℕ, List}
use Rattle.ask_files.specs.declared.which.ReadCause.{ReadCause}
use Rattle.top_answer.specs.Answers.{IsOfRounds, of_ended, of_spent}
use Rattle.top_answer.specs.Commands.{done_writes}
use Rattle.top_status.specs.declared.status.Excess.{Excess}
use Rattle.top_status.specs.declared.status.Status.{Status}
use Rattle.top_status.specs.declared.status.Status.TheVariants.{Done, Read, Write}
use Rattle.top_texts.specs.Questions.{IsExcessIn, Question, QuestionEnds, is_refused, rounds_end, rounds_spent}
use Rattle.top_texts.proofs.questions.OneEnd.{HasOneMeaning, question_ends_once}
use Rattle.top_answer.proofs.commands.Lawful.{IsLawfulCommand, done_ends}

-- a question doesn't end in a failed put
pub never_unwritten : (q : Question) → QuestionEnds q Write → ⊥
never_unwritten q (is_refused cause e h) = cc
never_unwritten q (rounds_end system e is h) = cc
never_unwritten q (rounds_spent system e is h) = cc

-- nor in a failed read
pub never_unread : (q : Question) (cause : ReadCause) → QuestionEnds q (Read cause) → ⊥
never_unread q read (is_refused cause e h) = cc
never_unread q read (rounds_end system e is h) = cc
never_unread q read (rounds_spent system e is h) = cc

module _ (q : Question) (one : HasOneMeaning q) where
  -- where something exceeds exact work on the way, improvements decide the ending
  pub exceeded_of_rounds : (excess : Excess) (s : Status) → IsExcessIn q excess → QuestionEnds q s → IsOfRounds s
  exceeded_of_rounds excess s w (is_refused c e h) = absurd (one.apart c w.system h w.meant)
  exceeded_of_rounds excess s w (rounds_end x e is ends) = of_ended e
  exceeded_of_rounds excess s w (rounds_spent x e is out) = of_spent q.limit e

  -- it is lawful, where something written is its success
  pub lawful : (writes : List ℕ → Type 0) → ((bytes : List ℕ) → writes bytes → QuestionEnds q Done)
      → IsLawfulCommand (λ s. QuestionEnds q s) (λ excess. IsExcessIn q excess) (λ s bytes. done_writes writes s bytes)
  lawful writes ends = record {
    ends_once = question_ends_once q one;
    exceeded_ends = exceeded_of_rounds;
    written_ends = done_ends (λ s. QuestionEnds q s) writes ends;
    never_unread = never_unread q;
    never_unwritten = never_unwritten q;
  }
