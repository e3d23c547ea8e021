-- The analysis of a transition system.
use Rattle.std.proofs.Common.{◌≡◌, ℕ, List, [], refl, subst}
use Rattle.std.specs.Prelude.{IfOk, IfErr, Option, Result, Some, Vec, option_map}
use Rattle.std.specs.declared.alloc.Global.{Global}
use Rattle.clap.specs.Words.{Row, Text as WordText}
use Rattle.ask_files.specs.Files.{Request, analysis_with}
use Rattle.ask_files.specs.declared.which.Which.TheVariants as which
use Rattle.ask_words.specs.Request.{analysis_in, format_in, transitions_in}
use Rattle.ask_words.specs.Values.{formats}
use Rattle.ask_words.specs.declared.format.Format.{Format}
use Rattle.ask_words.specs.declared.request.Analysis.{Analysis}
use Rattle.ask_words.specs.declared.request.Request.TheVariants.{Transitions}
use Rattle.top_texts.specs.Exact.{exact}
use Rattle.top_texts.specs.Questions.{rounds_end, transitions_question}
use Rattle.top_texts.specs.TransitionTexts.{IsAutoReport}
use Rattle.top_texts.proofs.questions.OneMeaning.{transitions_once}
use Rattle.top_answer.specs.Commands.{command_of, done_writes}
use Rattle.top_answer.specs.Outcomes.{HasOutcome, Says}
use Rattle.top_status.specs.declared.status.Status.{Status}
use Rattle.top_texts.specs.Outcomes.{IsUnanswered}
use Rattle.top_texts.specs.declared.refusal.Refusal.{Refusal}
use Rattle.top_answer.proofs.commands.Results.{answered}
use Rattle.top_answer.proofs.commands.Asking.{lawful}
use Rattle.top_answer.proofs.commands.Lawful.{IsCommand, IsInRange, done_once}
use Rattle.top_answer.proofs.outputs.Reports.{auto_report_once}
use Rattle.top_answer.proofs.requests.Limits.{within}
use Rattle.top_answer.proofs.requests.Numbers.{analysis_bounds, and_then_some, map_some}

one_report : (a : Analysis (List ℕ)) (format : Format) (one other : List ℕ)
    → IsAutoReport a.program.text a.domain a.policy a.improvements format one
    → IsAutoReport a.program.text a.domain a.policy a.improvements format other → one ≡ other
one_report a format one other h k = auto_report_once a.program.text a.domain a.policy a.improvements format one other h k

one_report_at : (a : Analysis (List ℕ)) (format : Format) (s t : Status) (one other : List ℕ)
    → done_writes (λ bytes. IsAutoReport a.program.text a.domain a.policy a.improvements format bytes) s one
    → done_writes (λ bytes. IsAutoReport a.program.text a.domain a.policy a.improvements format bytes) t other → one ≡ other
one_report_at a format =
    done_once (λ bytes. IsAutoReport a.program.text a.domain a.policy a.improvements format bytes) (one_report a format)

-- it is a command of the program
pub transitions : (a : Analysis (List ℕ)) (format : Format) → IsCommand (Transitions a format)
transitions a format = record {
  lawful = lawful (transitions_question exact a.program.text a.domain a.policy a.improvements)
      (transitions_once a.program.text a.domain a.policy a.improvements)
      (λ bytes. IsAutoReport a.program.text a.domain a.policy a.improvements format bytes)
      (λ bytes r. rounds_end r.system refl r.meant (r.rounds, r.within, r.vector, r.has_rounds));
  writes_once = λ none contents. one_report_at (analysis_with a contents) format;
  limits = λ contents range e. within (which.System, a.program.text) a [] contents range e;
}

transitions_by : List Row → Analysis WordText → Option Request
transitions_by given a = option_map (λ format. Transitions a format) (format_in formats given)

-- its improvements are within their limit
pub transitions_range : (given : List Row) (r : Request) → transitions_in given ≡ Some r → IsInRange r
unfolding transitions_by
transitions_range given r e =
    let a = and_then_some (transitions_by given) (analysis_in given) r e in
    let made : Format → Request = λ format. Transitions a.0 format in
    let format = map_some made (format_in formats given) r a.2 in
    subst (λ r. IsInRange r) format.2 (analysis_bounds given a.0 a.1)

-- its report, or why there is none
pub transited : (a : Analysis (List ℕ)) (format : Format) (r : Result (Vec ℕ Global) Refusal) (s : Status) (bytes : List ℕ)
    → IfOk r (λ made. IsAutoReport a.program.text a.domain a.policy a.improvements format made.items)
    → IfErr r (λ x. IsUnanswered (transitions_question exact a.program.text a.domain a.policy a.improvements) x) → HasOutcome r s bytes
    → Says (command_of exact (Transitions a format)) s bytes
transited a format r s bytes ok err h = answered (transitions_question exact a.program.text a.domain a.policy a.improvements)
    (λ bytes. IsAutoReport a.program.text a.domain a.policy a.improvements format bytes) r s bytes ok err h
