-- The analysis of a program, for its report or for its certificate.
use Rattle.std.proofs.Common.{◌≡◌, ◌∙◌, ◌≤◌, ℕ, List, [], length, refl, sym, ap, subst, subst₂}
use Rattle.std.specs.Prelude.{IfOk, IfErr, Option, Result, Some, Vec, option_map}
use Rattle.std.specs.declared.alloc.Global.{Global}
use Rattle.clap.specs.Words.{Row}
use Rattle.flow_systems.specs.View.{vector_of}
use Rattle.flow_systems.specs.declared.system.System.{System}
use Rattle.cert_fitted.specs.Dense.{dense_cert}
use Rattle.solve_rounds.specs.Solutions.{cert_with}
use Rattle.ask_files.specs.Files.{Request, analysis_with}
use Rattle.ask_files.specs.declared.which.Which.TheVariants as which
use Rattle.ask_words.specs.Request.{analysis_in, certify_in, format_in, solve_in}
use Rattle.ask_words.specs.Values.{formats}
use Rattle.ask_words.specs.declared.format.Format.{Format}
use Rattle.ask_words.specs.declared.format.Format.TheVariants.{Text as AsText}
use Rattle.ask_words.specs.declared.request.Analysis.{Analysis}
use Rattle.ask_words.specs.declared.request.Domain.{Domain}
use Rattle.ask_words.specs.declared.request.Policy.{Policy}
use Rattle.ask_words.specs.declared.request.Purpose.{Purpose}
use Rattle.ask_words.specs.declared.request.Purpose.TheVariants.{Report, Certificate as AsCertificate}
use Rattle.ask_words.specs.declared.request.Request.TheVariants.{Analyse}
use Rattle.top_answer.specs.Commands.{IsCertificate, IsPut, command_of, done_writes}
use Rattle.top_answer.specs.Outcomes.{HasOutcome, Says}
use Rattle.top_status.specs.declared.status.Status.{Status}
use Rattle.top_status.specs.declared.status.Status.TheVariants.{Done}
use Rattle.top_texts.specs.Checks.{system_with}
use Rattle.top_texts.specs.Exact.{exact}
use Rattle.top_texts.specs.Outcomes.{IsHalted, IsOutputOf, IsRefusedBy, refused}
use Rattle.top_texts.specs.Questions.{Question, QuestionEnds, analysis_question, rounds_end}
use Rattle.top_texts.specs.Reports.{IsCertificateOf, IsPutOf}
use Rattle.top_texts.specs.Texts.{IsSolvedSystem, Program}
use Rattle.top_texts.specs.declared.refusal.Refusal.{Refusal}
use Rattle.top_texts.proofs.analyses.Analysed.{output_put}
use Rattle.top_texts.proofs.analyses.Unanswered.{unsolved, unsystematic}
use Rattle.top_texts.proofs.by_c.InSource.{bounds_in_source}
use Rattle.top_texts.proofs.checks.Accepted.{bounds_are}
use Rattle.top_texts.proofs.checks.Upgraded.{few}
use Rattle.top_texts.proofs.questions.OneMeaning.{analysis_once}
use Rattle.top_texts.proofs.rounds.OneChain.{solved_ends}
use Rattle.top_texts.proofs.texts.Once.{rows_over}
use Rattle.top_answer.proofs.commands.Asking.{lawful}
use Rattle.top_answer.proofs.commands.Lawful.{IsCommand, IsForNone, IsInRange, done_once}
use Rattle.top_answer.proofs.commands.Results.{answered, err_map, ok_map, question_says}
use Rattle.top_answer.proofs.outputs.Reports.{report_once}
use Rattle.top_answer.proofs.requests.Limits.{within}
use Rattle.top_answer.proofs.requests.Numbers.{analysis_bounds, and_then_some, map_some}

-- ---- what is written

-- the certificate that the rounds make of texts is one by the exact meanings
certificate : (program : Program) (rows : Domain (List ℕ)) (policy : Policy) (limit : ℕ) (bytes : List ℕ)
    → IsCertificateOf program rows policy limit bytes → IsCertificate exact program rows policy limit bytes
certificate program rows policy limit bytes c = record {
  made = c;
  names = c.names;
  body = c.body;
  template = c.template;
  ready = c.ready;
  vector = vector_of (length c.template) c.solved.bounds;
  accepted = λ kept. record {
    cert = cert_with c.system c.solved;
    rows_are = c.system_for.template_is;
    vector_is = bounds_are (system_with c.names c.body (cert_with c.system c.solved)) c.solved.bounds
        ∙ ap (λ t. vector_of (length t) c.solved.bounds) c.system_for.template_is;
    valid = c.accepted (few (dense_cert (cert_with c.system c.solved))
        (λ many. kept (c.names, c.body, c.ready.system.analysed, c.expands many)));
    narrow = c.narrow;
  };
  least = c.least;
  by_c = bounds_in_source program c.names c.body c.ready.system.analysed.has_core c.template
      (vector_of (length c.template) c.solved.bounds) (rows_over c.names c.body c.template c.system c.system_for) c.least;
}

put_by : (purpose : Purpose) (a : Analysis (List ℕ)) (format : Format) (bytes : List ℕ)
    → IsPutOf purpose a.program a.domain a.policy a.improvements format bytes → IsPut exact purpose a format bytes
put_by Report a format bytes r = r
put_by AsCertificate a format bytes c = certificate a.program a.domain a.policy a.improvements bytes c

-- ---- the laws

-- the question of an analysis
abbrev question : Purpose → Analysis (List ℕ) → Question
question purpose a = analysis_question exact purpose a.program a.domain a.policy a.improvements

written_ends : (purpose : Purpose) (a : Analysis (List ℕ)) (format : Format) (bytes : List ℕ) → IsPut exact purpose a format bytes
    → QuestionEnds (question purpose a) Done
written_ends Report a format bytes r = rounds_end r.system refl
    (record { names = r.names; body = r.body; template = r.template; ready = r.ready; system_for = r.system_for })
    (r.rounds, r.within, r.vector, r.has_rounds)
written_ends AsCertificate a format bytes c = rounds_end c.made.system refl
    (record { names = c.made.names; body = c.made.body; template = c.made.template; ready = c.made.ready; system_for = c.made.system_for })
    (solved_ends c.made.system a.policy a.improvements c.made.solved c.made.is_solved)

one_report : (a : Analysis (List ℕ)) (format : Format) (one other : List ℕ) → IsPut exact Report a format one
    → IsPut exact Report a format other → one ≡ other
one_report a format one other h k = report_once a.program a.domain a.policy a.improvements format one other h k

writes_once : (purpose : Purpose) (a : Analysis (List ℕ)) (format : Format) → IsForNone (Analyse purpose a format)
    → (contents : List (List ℕ)) (s t : Status) (one other : List ℕ)
    → done_writes (λ bytes. IsPut exact purpose (analysis_with a contents) format bytes) s one
    → done_writes (λ bytes. IsPut exact purpose (analysis_with a contents) format bytes) t other → one ≡ other
writes_once Report a format none contents s t one other h k =
    done_once (λ bytes. IsPut exact Report (analysis_with a contents) format bytes) (one_report (analysis_with a contents) format) s t one
    other h k
writes_once AsCertificate a format none contents s t one other h k = absurd (none a format refl)

-- an analysis is a command of the program
pub analyses : (purpose : Purpose) (a : Analysis (List ℕ)) (format : Format) → IsCommand (Analyse purpose a format)
analyses purpose a format = record {
  lawful = lawful (question purpose a) (analysis_once purpose a.program a.domain a.policy a.improvements)
      (λ bytes. IsPut exact purpose a format bytes) (written_ends purpose a format);
  writes_once = writes_once purpose a format;
  limits = λ contents range e. within (which.Program, a.program.text) a [] contents range e;
}

report_in : List Row → Analysis (List ℕ) → Option Request
report_in given a = option_map (λ format. Analyse Report a format) (format_in formats given)

-- its improvements are within their limit
pub solve_range : (given : List Row) (r : Request) → solve_in given ≡ Some r → IsInRange r
unfolding report_in
solve_range given r e =
    let a = and_then_some (report_in given) (analysis_in given) r e in
    let made : Format → Request = λ format. Analyse Report a.0 format in
    let format = map_some made (format_in formats given) r a.2 in
    subst (λ r. IsInRange r) format.2 (analysis_bounds given a.0 a.1)

-- so are those of a certificate
pub certify_range : (given : List Row) (r : Request) → certify_in given ≡ Some r → IsInRange r
certify_range given r e =
    let made : Analysis (List ℕ) → Request = λ a. Analyse AsCertificate a AsText in
    let a = map_some made (analysis_in given) r e in
    subst (λ r. IsInRange r) a.2 (analysis_bounds given a.0 a.1)

-- ---- its result

module _ (a : Analysis (List ℕ)) (system : System) (is : IsSolvedSystem a.program a.domain system) where
  -- what the analysis of a system comes to is what its texts do
  pub solved : (purpose : Purpose) (format : Format) (r : Result (Vec ℕ Global) Refusal) (s : Status) (bytes : List ℕ)
      → IfOk r (λ made. IsOutputOf purpose system a.policy a.improvements format made.items)
      → IfErr r (λ x. IsHalted purpose system a.policy a.improvements x) → HasOutcome r s bytes
      → Says (command_of exact (Analyse purpose a format)) s bytes
  solved purpose format r s bytes ok err h = answered (question purpose a) (λ b. IsPut exact purpose a format b) r s bytes
      (ok_map (λ b. IsOutputOf purpose system a.policy a.improvements format b) _
      (λ b o. put_by purpose a format b (output_put purpose a.program a.domain system a.policy a.improvements format b is o)) r ok)
      (err_map (λ x. IsHalted purpose system a.policy a.improvements x) _
      (unsolved purpose a.program a.domain a.policy a.improvements system is) r err) h

-- texts that have no system
pub unsolvable : (purpose : Purpose) (a : Analysis (List ℕ)) (format : Format) (x : Refusal) (s : Status) (bytes : List ℕ)
    → IsRefusedBy a.program a.domain x → (s ≡ refused x) × (bytes ≡ []) → Says (command_of exact (Analyse purpose a format)) s bytes
unsolvable purpose a format x s bytes h (e, i) = subst₂ (λ t b. Says (command_of exact (Analyse purpose a format)) t b) (sym e) (sym i)
    (question_says (question purpose a) (λ b. IsPut exact purpose a format b) x
    (unsystematic purpose a.program a.domain a.policy a.improvements x h))
