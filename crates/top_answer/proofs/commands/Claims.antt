-- The proof of claims.
use Rattle.std.proofs.Common.{◌≡◌, ◌+◌, ℕ, List, [], ◌∷◌, sym, subst}
use Rattle.std.specs.Prelude.{IfOk, IfErr, Option, None, Result, Some, Vec, codes, option_and_then, option_map}
use Rattle.std.specs.declared.alloc.Global.{Global}
use Rattle.clap.specs.Words.{Row, Text as WordText, first_of}
use Rattle.ask_files.specs.Files.{Request, analysis_with, files_of, rows_before, rows_files, text_at, unread, with_texts}
use Rattle.ask_files.specs.declared.which.Which.TheVariants as which
use Rattle.ask_words.specs.Request.{analysis_in, format_in, prove_in}
use Rattle.ask_words.specs.Values.{formats}
use Rattle.ask_words.specs.declared.format.Format.{Format}
use Rattle.ask_words.specs.declared.request.Analysis.{Analysis}
use Rattle.ask_words.specs.declared.request.Request.TheVariants.{Prove}
use Rattle.top_answer.specs.Commands.{command_of, done_writes}
use Rattle.top_texts.specs.ClaimTexts.{AreVerdictsOf}
use Rattle.top_texts.specs.Exact.{exact}
use Rattle.top_texts.specs.Questions.{claims_question}
use Rattle.top_texts.specs.Short.{IsShort}
use Rattle.top_texts.proofs.claim_texts.Judged.{verdicts_end}
use Rattle.top_texts.proofs.claim_texts.OneText.{verdicts_once}
use Rattle.top_texts.proofs.questions.OneMeaning.{claims_once}
use Rattle.top_answer.specs.Outcomes.{HasOutcome, Says}
use Rattle.top_status.specs.declared.status.Status.{Status}
use Rattle.top_texts.specs.Outcomes.{IsUnanswered}
use Rattle.top_texts.specs.declared.refusal.Refusal.{Refusal}
use Rattle.top_answer.proofs.commands.Results.{answered}
use Rattle.top_answer.proofs.commands.Asking.{lawful}
use Rattle.top_answer.proofs.commands.Lawful.{IsCommand, IsInRange, done_once}
use Rattle.top_answer.proofs.requests.Limits.{claims_short, read_first, within}
use Rattle.top_answer.proofs.requests.Numbers.{analysis_bounds, and_then_some, map_some}

one_list : (a : Analysis (List ℕ)) (given : List ℕ) (format : Format) (one other : List ℕ)
    → AreVerdictsOf exact a.program a.domain given a.policy a.improvements format one
    → AreVerdictsOf exact a.program a.domain given a.policy a.improvements format other → one ≡ other
one_list a given format one other h k = verdicts_once a.program a.domain given a.policy a.improvements format one other h k

one_list_at : (a : Analysis (List ℕ)) (given : List ℕ) (format : Format) (s t : Status) (one other : List ℕ)
    → done_writes (λ bytes. AreVerdictsOf exact a.program a.domain given a.policy a.improvements format bytes) s one
    → done_writes (λ bytes. AreVerdictsOf exact a.program a.domain given a.policy a.improvements format bytes) t other → one ≡ other
one_list_at a given format = done_once (λ bytes. AreVerdictsOf exact a.program a.domain given a.policy a.improvements format bytes)
    (one_list a given format)

limits : (given : List ℕ) (a : Analysis (List ℕ)) (format : Format) (contents : List (List ℕ)) → IsInRange (Prove given a format)
    → unread (files_of (Prove given a format)) contents ≡ None
    → (command_of exact (with_texts (Prove given a format) contents)).in_limits
limits given a format contents range e =
    let read = read_first (which.Program, a.program.text) (rows_before a.domain ((which.Claims, given) ∷ [])) contents e in (
      within (which.Program, a.program.text) a ((which.Claims, given) ∷ []) contents range e,
      subst (λ c. IsShort (text_at c (1 + rows_files a.domain))) (sym read.2) (claims_short a.domain given read.0 read.1 read.4),
    )

-- a proof of claims is a command of the program
pub claims : (given : List ℕ) (a : Analysis (List ℕ)) (format : Format) → IsCommand (Prove given a format)
claims given a format = record {
  lawful = lawful (claims_question exact a.program a.domain given a.policy a.improvements)
      (claims_once a.program a.domain given a.policy a.improvements)
      (λ bytes. AreVerdictsOf exact a.program a.domain given a.policy a.improvements format bytes)
      (verdicts_end a.program a.domain given a.policy a.improvements format);
  writes_once = λ none contents. one_list_at (analysis_with a contents) (text_at contents (1 + rows_files a.domain)) format;
  limits = limits given a format;
}

prove_by : List Row → Analysis WordText → WordText → Option Request
prove_by given a claims = option_map (λ format. Prove claims a format) (format_in formats given)

prove_of : List Row → Analysis WordText → Option Request
prove_of given a = option_and_then (prove_by given a) (first_of (codes "claims") given)

-- its improvements are within their limit
pub claims_range : (given : List Row) (r : Request) → prove_in given ≡ Some r → IsInRange r
unfolding prove_of prove_by
claims_range given r e =
    let a = and_then_some (prove_of given) (analysis_in given) r e in
    let claims = and_then_some (prove_by given a.0) (first_of (codes "claims") given) r a.2 in
    let made : Format → Request = λ format. Prove claims.0 a.0 format in
    let format = map_some made (format_in formats given) r claims.2 in
    subst (λ r. IsInRange r) format.2 (analysis_bounds given a.0 a.1)

-- its verdicts, or why there are none
pub proved : (given : List ℕ) (a : Analysis (List ℕ)) (format : Format) (r : Result (Vec ℕ Global) Refusal) (s : Status) (bytes : List ℕ)
    → IfOk r (λ made. AreVerdictsOf exact a.program a.domain given a.policy a.improvements format made.items)
    → IfErr r (λ x. IsUnanswered (claims_question exact a.program a.domain given a.policy a.improvements) x) → HasOutcome r s bytes
    → Says (command_of exact (Prove given a format)) s bytes
proved given a format r s bytes ok err h = answered (claims_question exact a.program a.domain given a.policy a.improvements)
    (λ bytes. AreVerdictsOf exact a.program a.domain given a.policy a.improvements format bytes) r s bytes ok err h
