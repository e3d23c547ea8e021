-- The values of equations.
use Rattle.std.proofs.Common.{◌≡◌, ℕ, List, [], refl, subst}
use Rattle.std.specs.Prelude.{IfOk, IfErr, Option, Result, Some, Vec, codes, option_and_then, option_map}
use Rattle.std.specs.declared.alloc.Global.{Global}
use Rattle.clap.specs.Words.{Row, Text as WordText, first_of}
use Rattle.ask_files.specs.Files.{Request, text_at}
use Rattle.ask_files.specs.declared.which.Which.TheVariants as which
use Rattle.ask_words.specs.Request.{equations_in, format_in, improvements_in, policy_in}
use Rattle.ask_words.specs.Values.{formats}
use Rattle.ask_words.specs.declared.format.Format.{Format}
use Rattle.ask_words.specs.declared.request.Policy.{Policy}
use Rattle.ask_words.specs.declared.request.Request.TheVariants.{Equations}
use Rattle.top_status.specs.declared.status.Status.TheVariants.{Done}
use Rattle.top_texts.specs.EquationTexts.{AreValuesOf}
use Rattle.top_texts.specs.Exact.{exact}
use Rattle.top_texts.specs.Questions.{QuestionEnds, equations_question, rounds_end}
use Rattle.top_texts.proofs.equation_texts.OneText.{values_once}
use Rattle.top_texts.proofs.questions.OneMeaning.{solution_once}
use Rattle.top_answer.specs.Commands.{command_of}
use Rattle.top_answer.specs.Outcomes.{HasOutcome, Says}
use Rattle.top_status.specs.declared.status.Status.{Status}
use Rattle.top_texts.specs.Outcomes.{IsUnanswered}
use Rattle.top_texts.specs.declared.refusal.Refusal.{Refusal}
use Rattle.top_answer.proofs.commands.Results.{answered}
use Rattle.top_answer.proofs.commands.Asking.{lawful}
use Rattle.top_answer.proofs.commands.Lawful.{IsCommand, IsInRange, done_once}
use Rattle.top_answer.proofs.requests.Limits.{first_short}
use Rattle.top_answer.proofs.requests.Numbers.{and_then_some, improvements_bound, map_some}

written_ends : (text : List ℕ) (policy : Policy) (limit : ℕ) (format : Format) (bytes : List ℕ)
    → AreValuesOf text policy limit format bytes → QuestionEnds (equations_question exact text policy limit) Done
written_ends text policy limit format bytes v =
    let made = v.improvements in
    rounds_end made.0 refl (record { equations = v.equations; reading = v.reading; system_is = made.1 })
    (v.rounds, v.within, made.2, made.3)

-- equations are a command of the program
pub equations : (text : List ℕ) (limit : ℕ) (policy : Policy) (format : Format) → IsCommand (Equations text limit policy format)
equations text limit policy format = record {
  lawful = lawful (equations_question exact text policy limit) (solution_once text policy limit)
      (λ bytes. AreValuesOf text policy limit format bytes) (written_ends text policy limit format);
  writes_once = λ none contents. done_once (λ bytes. AreValuesOf (text_at contents 0) policy limit format bytes)
      (values_once (text_at contents 0) policy limit format);
  limits = λ contents range e. (first_short (which.Equations, text) [] contents e, range);
}

values_in : List Row → WordText → ℕ → Policy → Option Request
values_in given file improvements policy = option_map (λ format. Equations file improvements policy format) (format_in formats given)

values_with : List Row → WordText → ℕ → Option Request
values_with given file improvements = option_and_then (values_in given file improvements) (policy_in given)

values_of : List Row → WordText → Option Request
values_of given file = option_and_then (values_with given file) (improvements_in given)

-- their improvements are within their limit
pub equations_range : (given : List Row) (r : Request) → equations_in given ≡ Some r → IsInRange r
unfolding values_of values_with values_in
equations_range given r e =
    let file = and_then_some (values_of given) (first_of (codes "file") given) r e in
    let improvements = and_then_some (values_with given file.0) (improvements_in given) r file.2 in
    let policy = and_then_some (values_in given file.0 improvements.0) (policy_in given) r improvements.2 in
    let made : Format → Request = λ format. Equations file.0 improvements.0 policy.0 format in
    let format = map_some made (format_in formats given) r policy.2 in
    subst (λ r. IsInRange r) format.2 (improvements_bound given improvements.0 improvements.1)

-- their values, or why there are none
pub equated : (text : List ℕ) (limit : ℕ) (policy : Policy) (format : Format) (r : Result (Vec ℕ Global) Refusal) (s : Status)
    (bytes : List ℕ) → IfOk r (λ made. AreValuesOf text policy limit format made.items)
    → IfErr r (λ x. IsUnanswered (equations_question exact text policy limit) x)
    → HasOutcome r s bytes → Says (command_of exact (Equations text limit policy format)) s bytes
equated text limit policy format r s bytes ok err h = answered (equations_question exact text policy limit)
    (λ bytes. AreValuesOf text policy limit format bytes) r s bytes ok err h
