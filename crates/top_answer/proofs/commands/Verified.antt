-- The verdicts on a program's checks.
use Rattle.std.proofs.Common.{◌≡◌, inr, ℕ, Bool, true, false, List, [], refl, subst, subst₂, sym}
use Rattle.std.specs.Prelude.{IfOk, IfErr, Option, Result, Ok, Err, Some, option_map}
use Rattle.clap.specs.Words.{Row, Text as WordText}
use Rattle.lang_tree.specs.Tree.{Statements}
use Rattle.flow_systems.specs.Equations.{Equations, Vector}
use Rattle.ask_checks.proofs.laws.Determined.{verdicts_are_one}
use Rattle.ask_files.specs.Files.{Request, analysis_with}
use Rattle.ask_files.specs.declared.which.ReadCause.{ReadCause}
use Rattle.ask_files.specs.declared.which.Which.TheVariants as which
use Rattle.ask_words.specs.Request.{analysis_in, format_in, verify_in}
use Rattle.ask_words.specs.Values.{check_formats}
use Rattle.ask_words.specs.declared.format.Format.{Format}
use Rattle.ask_words.specs.declared.request.Analysis.{Analysis}
use Rattle.ask_words.specs.declared.request.Request.TheVariants.{Verify}
use Rattle.top_answer.specs.Answers.{IsOfRounds, of_ended, of_open, of_spent}
use Rattle.top_answer.specs.Commands.{VerifyEnds, command_of, judged, unjudged}
use Rattle.top_answer.specs.Outcomes.{HasVerdicts, Says}
use Rattle.top_status.specs.declared.status.Excess.{Excess}
use Rattle.top_status.specs.declared.status.Status.{Status}
use Rattle.top_status.specs.declared.status.Status.TheVariants.{Done, Read, Write}
use Rattle.top_texts.specs.CheckTexts.{AreCheckVerdictsOf, ChecksEnd, IsJudged, all_proved, ending_of, some_open}
use Rattle.top_texts.specs.Exact.{exact}
use Rattle.top_texts.specs.Outcomes.{IsUnanswered, refused}
use Rattle.top_texts.specs.Questions.{IsExcessIn, Question, QuestionEnds, checks_question, is_refused, rounds_end, rounds_spent}
use Rattle.top_texts.specs.declared.refusal.Refusal.{Refusal}
use Rattle.top_texts.specs.declared.refusal.Refusal.TheVariants as refusal
use Rattle.top_texts.specs.declared.verify.Judged.{Judged}
use Rattle.top_texts.proofs.check_texts.OneText.{check_verdicts_once, judged_once, judged_unspent}
use Rattle.top_texts.proofs.questions.OneEnd.{question_ends_once}
use Rattle.top_texts.proofs.questions.OneMeaning.{checks_once}
use Rattle.top_texts.proofs.texts.Once.{ready_unrefused}
use Rattle.top_answer.proofs.commands.Asking.{exceeded_of_rounds, never_unread, never_unwritten}
use Rattle.top_answer.proofs.commands.Lawful.{IsCommand, IsInRange}
use Rattle.top_answer.proofs.requests.Limits.{within}
use Rattle.top_answer.proofs.requests.Numbers.{analysis_bounds, and_then_some, map_some}

-- ---- one ending

-- what checks decide is decided where improvements end
by_checks : (body : Statements) (system : Equations) (vector : Vector) (s : Status) → ChecksEnd body system vector s → IsOfRounds s
by_checks body system vector s (all_proved e h) = of_ended e
by_checks body system vector s (some_open e o) = of_open e

module _ (a : Analysis (List ℕ)) where
  -- the question about its checks
  abbrev question : Question
  question = checks_question exact a.program a.domain a.policy a.improvements

  -- texts that are refused, or whose improvements are spent, aren't judged
  not_both : (s t : Status) → QuestionEnds question s → (s ≡ Done → ⊥) → IsJudged a.program a.domain a.policy a.improvements t → ⊥
  not_both s t (is_refused c e h) other j =
      ready_unrefused a.program a.domain j.solved.names j.solved.body j.solved.template c h j.solved.ready
  not_both s t (rounds_end x e is ends) other j = other e
  not_both s t (rounds_spent x e is out) other j = judged_unspent a.program a.domain a.policy a.improvements t x j is out

  ends_once : (s t : Status) → VerifyEnds exact a s → VerifyEnds exact a t → s ≡ t
  ends_once s t (unjudged h m) (unjudged k n) =
      question_ends_once question (checks_once a.program a.domain a.policy a.improvements) s t h k
  ends_once s t (unjudged h m) (judged j) = absurd (not_both s t h m j)
  ends_once s t (judged i) (unjudged k n) = absurd (not_both t s k n i)
  ends_once s t (judged i) (judged j) = judged_once a.program a.domain a.policy a.improvements s t i j

  decided : (s : Status) → IsJudged a.program a.domain a.policy a.improvements s → IsOfRounds s
  decided s j = by_checks _ _ _ s j.ends

  exceeded_ends : (excess : Excess) (s : Status) → IsExcessIn question excess → VerifyEnds exact a s → IsOfRounds s
  exceeded_ends excess s w (unjudged h n) =
      exceeded_of_rounds question (checks_once a.program a.domain a.policy a.improvements) excess s w h
  exceeded_ends excess s w (judged j) = decided s j

  read_undecided : (cause : ReadCause) → IsOfRounds (Read cause) → ⊥
  read_undecided cause (of_ended e) = cc
  read_undecided cause (of_open e) = cc
  read_undecided cause (of_spent number e) = cc

  write_undecided : IsOfRounds Write → ⊥
  write_undecided (of_ended e) = cc
  write_undecided (of_open e) = cc
  write_undecided (of_spent number e) = cc

  unread : (cause : ReadCause) → VerifyEnds exact a (Read cause) → ⊥
  unread cause (unjudged h n) = never_unread question cause h
  unread cause (judged j) = read_undecided cause (decided (Read cause) j)

  unwritten : VerifyEnds exact a Write → ⊥
  unwritten (unjudged h n) = never_unwritten question h
  unwritten (judged j) = write_undecided (decided Write j)

one_list : (name : List ℕ) (a : Analysis (List ℕ)) (format : Format) (s t : Status) (one other : List ℕ)
    → AreCheckVerdictsOf exact name a.program a.domain a.policy a.improvements format s one
    → AreCheckVerdictsOf exact name a.program a.domain a.policy a.improvements format t other → one ≡ other
one_list name a format s t one other h k =
    check_verdicts_once a.program a.domain a.policy a.improvements verdicts_are_one name format s t one other h k

-- it is a command of the program
pub verifies : (name : List ℕ) (a : Analysis (List ℕ)) (format : Format) → IsCommand (Verify name a format)
verifies name a format = record {
  lawful = record {
    ends_once = ends_once a;
    exceeded_ends = exceeded_ends a;
    written_ends = λ s bytes v. judged v.judged;
    never_unread = unread a;
    never_unwritten = unwritten a;
  };
  writes_once = λ none contents. one_list name (analysis_with a contents) format;
  limits = λ contents range e. within (which.Program, a.program.text) a [] contents range e;
}

verify_by : List Row → Analysis WordText → Option Request
verify_by given a = option_map (λ format. Verify a.program.text a format) (format_in check_formats given)

-- its improvements are within their limit
pub verify_range : (given : List Row) (r : Request) → verify_in given ≡ Some r → IsInRange r
unfolding verify_by
verify_range given r e =
    let a = and_then_some (verify_by given) (analysis_in given) r e in
    let made : Format → Request = λ format. Verify a.0.program.text a.0 format in
    let format = map_some made (format_in check_formats given) r a.2 in
    subst (λ r. IsInRange r) format.2 (analysis_bounds given a.0 a.1)

-- ---- what a result says

module _ (name : List ℕ) (a : Analysis (List ℕ)) (format : Format) where
  unanswered_says : (x : Refusal) → IsUnanswered (question a) x → Says (command_of exact (Verify name a format)) (refused x) []
  unanswered_says (refusal.Text cause) h = (unjudged (is_refused cause refl h) (λ e. cc), refl)
  unanswered_says (refusal.Certificate cause) h = absurd h
  unanswered_says (refusal.Exceeded excess) h = (inr h, refl)
  unanswered_says (refusal.Spent n) h = (unjudged h (λ e. cc), refl)
  unanswered_says refusal.NoMemory h = refl

  judged_says : (is_open : Bool) (bytes : List ℕ)
      → AreCheckVerdictsOf exact name a.program a.domain a.policy a.improvements format (ending_of is_open) bytes
      → Says (command_of exact (Verify name a format)) (ending_of is_open) bytes
  judged_says true bytes h = h
  judged_says false bytes h = h

  -- its verdicts, or why there are none
  pub verified : (r : Result Judged Refusal) (s : Status) (bytes : List ℕ)
      → IfOk r (λ made. AreCheckVerdictsOf exact name a.program a.domain a.policy a.improvements format (ending_of made.is_open)
      made.bytes.items)
      → IfErr r (λ x. IsUnanswered (question a) x) → HasVerdicts r s bytes → Says (command_of exact (Verify name a format)) s bytes
  verified (Ok made) s bytes ok err (e, i) =
      subst₂ (λ x b. Says (command_of exact (Verify name a format)) x b) (sym e) (sym i) (judged_says made.is_open made.bytes.items ok)
  verified (Err x) s bytes ok err (e, i) =
      subst₂ (λ y b. Says (command_of exact (Verify name a format)) y b) (sym e) (sym i) (unanswered_says x err)
