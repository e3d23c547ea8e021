-- What is said where texts have no least bounds, and where they have.
use Rattle.std.proofs.Common.{◌≡◌, ◌∙◌, ◌⊎◌, ⊎_elim, inr, ℕ, List, [], ap, refl, subst, sym}
use Rattle.flow_systems.specs.View.{vector_at}
use Rattle.ask_words.specs.declared.format.Format.{Format}
use Rattle.ask_words.specs.declared.request.Analysis.{Analysis}
use Rattle.ask_words.specs.declared.request.Domain.{Domain}
use Rattle.ask_words.specs.declared.request.Policy.{Policy}
use Rattle.ask_words.specs.declared.request.Purpose.TheVariants.{Report}
use Rattle.ask_words.specs.declared.request.Request.TheVariants.{Analyse}
use Rattle.top_answer.specs.Outcomes.{NamesPlace, Says}
use Rattle.top_status.specs.CheckMessages.{rows_of}
use Rattle.top_status.specs.Messages.{line_in, message_of}
use Rattle.top_status.specs.declared.ending.Ending.{Ending}
use Rattle.top_status.specs.declared.status.Status.{Status}
use Rattle.top_status.specs.declared.status.Status.TheVariants.{Done, Open, Certificate, Usage, Read, Text, Exceeded, Spent, Memory, Write}
use Rattle.top_texts.specs.Analyses.{IsFoundIn, IsRefusedText, IsUnput}
use Rattle.top_texts.specs.Exact.{exact}
use Rattle.top_texts.specs.Outcomes.{QuestionAnswer}
use Rattle.top_texts.specs.Questions.{analysis_question, is_refused}
use Rattle.top_texts.specs.Texts.{IsSolvable, Program}
use Rattle.top_texts.specs.declared.analyse.least.LeastBounds.{LeastBounds}
use Rattle.acsl_annotate.specs.Annotated.{IsAnnotatedOf, annotating}

-- an ending without least bounds says its cause of the command that annotates
pub refused_says : (a : Analysis (List ℕ)) (format : Format) (s : Status)
    → QuestionAnswer (analysis_question exact Report a.program a.domain a.policy a.improvements) s → IsUnput s
    → Says (annotating exact (Analyse Report a format)) s []
refused_says a format Done h u = absurd (u.undone refl)
refused_says a format (Certificate c) h u = absurd h
refused_says a format Open h u = absurd h
refused_says a format Usage h u = absurd h
refused_says a format (Read c) h u = absurd h
refused_says a format (Text c) h u = (is_refused c refl h, refl)
refused_says a format (Exceeded excess) h u = (inr h, refl)
refused_says a format (Spent n) h u = (h, refl)
refused_says a format Memory h u = refl
refused_says a format Write h u = absurd (u.unwritten refl)

-- where bounds were found, the improvements end
pub solvable : (program : Program) (rows : Domain (List ℕ)) (policy : Policy) (limit : ℕ) (bounds : LeastBounds)
    → IsFoundIn program rows policy limit bounds → IsSolvable program rows policy limit
solvable program rows policy limit bounds h =
    (bounds.system, h.solved, (bounds.solved.improvements, h.within, vector_at bounds.system bounds.solved.bounds, h.has_rounds))

-- where they were, the annotated text is written
pub annotated_says : (a : Analysis (List ℕ)) (format : Format) (program : Program) (bounds : LeastBounds) (bytes : List ℕ)
    → a.program ≡ program
    → IsFoundIn a.program a.domain a.policy a.improvements bounds
    → ((rows : Domain (List ℕ)) (policy : Policy) (limit : ℕ) → IsFoundIn program rows policy limit bounds
    → IsAnnotatedOf program rows bytes)
    → Says (annotating exact (Analyse Report a format)) Done bytes
annotated_says a format program bounds bytes e found annotated = (
  solvable a.program a.domain a.policy a.improvements bounds found,
  subst (λ t. IsAnnotatedOf t a.domain bytes) (sym e)
      (annotated a.domain a.policy a.improvements (subst (λ t. IsFoundIn t a.domain a.policy a.improvements bounds) e found)),
)

-- an ending that has a status alone names no place
pub plain_names : (a : Analysis (List ℕ)) (format : Format) (s : Status) (message : List ℕ) → message ≡ message_of 0 0 s
    → (s ≡ Done) ⊎ (s ≡ Memory) → NamesPlace (Analyse Report a format) s message
plain_names a format s message m h = record {
  line = 0;
  rows = 0;
  is_message = m;
  line_is = ⊎_elim (λ e. subst (λ x. 0 ≡ line_in a.program.text x) (sym e) refl)
      (λ e. subst (λ x. 0 ≡ line_in a.program.text x) (sym e) refl) h;
  rows_are = λ count has. ⊎_elim (λ e. subst (λ x. 0 ≡ rows_of count x) (sym e) refl)
      (λ e. subst (λ x. 0 ≡ rows_of count x) (sym e) refl) h;
}

-- the ending of texts without least bounds names its place
pub refused_names : (a : Analysis (List ℕ)) (format : Format) (ending : Ending) (s : Status) (message : List ℕ) → s ≡ ending.status
    → message ≡ message_of ending.line ending.rows ending.status
    → IsRefusedText a.program a.domain a.policy a.improvements ending → NamesPlace (Analyse Report a format) s message
refused_names a format ending s message e m r = subst (λ x. NamesPlace (Analyse Report a format) x message) (sym e) (record {
  line = ending.line;
  rows = ending.rows;
  is_message = m;
  line_is = r.line;
  rows_are = λ count has. r.rows_named has.0 has.1 ∙ sym (ap (λ n. rows_of n ending.status) has.2);
})
