-- The check of a certificate.
use Rattle.std.proofs.Common.{◌≡◌, inl, ℕ, List, [], ◌∷◌, refl, sym, subst, subst₂}
use Rattle.std.specs.Prelude.{IfOk, IfErr, Result, Ok, Err, Some, Vec}
use Rattle.std.specs.declared.alloc.Global.{Global}
use Rattle.clap.specs.Words.{Row, Text as WordText, first_of}
use Rattle.std.specs.Prelude.{Option, codes, option_and_then, option_map}
use Rattle.theory_validity.specs.Certificates.{bounds_vector}
use Rattle.ask_files.specs.Files.{Request, source_with, text_at}
use Rattle.ask_files.specs.declared.which.Which.TheVariants as which
use Rattle.ask_words.specs.Request.{check_in, format_in, source_in}
use Rattle.ask_words.specs.Values.{formats}
use Rattle.ask_words.specs.declared.format.Format.{Format}
use Rattle.ask_words.specs.declared.request.Request.TheVariants.{Check}
use Rattle.top_answer.specs.Commands as commands
use Rattle.top_answer.specs.Commands.{CheckEnds, IsChecked, command_of}
use Rattle.top_answer.specs.Outcomes.{HasOutcome, Says}
use Rattle.top_status.specs.declared.status.Excess.TheVariants.{Wide, Large}
use Rattle.top_status.specs.declared.status.Status.{Status}
use Rattle.top_status.specs.declared.status.Status.TheVariants.{Done, Open, Certificate as Refused, Usage, Read, Text, Exceeded}
use Rattle.top_status.specs.declared.status.Status.TheVariants.{Spent, Memory, Write}
use Rattle.top_texts.specs.Checks.{IsSpelt, system_with}
use Rattle.top_texts.specs.Endings.{CheckEnd}
use Rattle.top_texts.specs.Exact.{exact}
use Rattle.top_texts.specs.Outcomes.{GetsNoReport, IsAnswerToCheck, IsUnspelt, refused}
use Rattle.top_texts.specs.Reports.{IsReportBy}
use Rattle.top_texts.specs.Texts.{Program}
use Rattle.top_texts.specs.declared.refusal.Refusal.{Refusal}
use Rattle.top_texts.specs.declared.refusal.Refusal.TheVariants as refusal
use Rattle.top_texts.proofs.checks.CheckOnce.{check_ends_once, check_staged}
use Rattle.top_texts.proofs.checks.Refused.{unreported_answers, unspelt_answers}
use Rattle.top_answer.proofs.commands.Lawful.{IsCommand, IsInRange, done_ends, done_once}
use Rattle.top_answer.proofs.commands.Results.{outcome_says}
use Rattle.top_answer.proofs.outputs.Reports.{checked_once}
use Rattle.top_answer.proofs.requests.Limits.{first_short}
use Rattle.top_answer.proofs.requests.Numbers.{and_then_some, ranged}

-- ---- endings, from the words of their own to those of the exact meanings, and back

-- an ending of a check is one by the exact meanings
check_end : (program : Program) (bytes : List ℕ) (s : Status) → CheckEnd program bytes s → CheckEnds exact program bytes s
check_end program bytes Done (names, body, cert, valid, narrow) =
    commands.accepted names body cert.rows (bounds_vector (system_with names body cert) cert.bounds) refl
    (record { cert = cert; rows_are = refl; vector_is = refl; valid = valid; narrow = narrow })
check_end program bytes (Refused cause) h = commands.certificate_refused cause refl h
check_end program bytes Open h = absurd h
check_end program bytes Usage h = absurd h
check_end program bytes (Read cause) h = absurd h
check_end program bytes (Text cause) h = commands.program_refused cause refl h
check_end program bytes (Exceeded (Wide spot)) h = commands.sum_too_wide spot refl h
check_end program bytes (Exceeded (Large cells)) h = absurd h
check_end program bytes (Spent n) h = absurd h
check_end program bytes Memory h = absurd h
check_end program bytes Write h = absurd h

check_end_back : (program : Program) (bytes : List ℕ) (s : Status) → CheckEnds exact program bytes s → CheckEnd program bytes s
check_end_back program bytes s (commands.program_refused cause e h) = subst (λ x. CheckEnd program bytes x) (sym e) h
check_end_back program bytes s (commands.certificate_refused cause e h) = subst (λ x. CheckEnd program bytes x) (sym e) h
check_end_back program bytes s (commands.sum_too_wide spot e h) = subst (λ x. CheckEnd program bytes x) (sym e) h
check_end_back program bytes s (commands.accepted names body rows vector e h) =
    subst (λ x. CheckEnd program bytes x) (sym e) (names, body, h.cert, h.valid, h.narrow)

-- ---- the laws

-- the report of a certificate that is accepted is one by the exact meanings
checked : (program : Program) (given : List ℕ) (format : Format) (bytes : List ℕ) → IsReportBy program given format bytes
    → IsChecked exact program given format bytes
checked program given format bytes r = record {
  names = r.names;
  body = r.body;
  rows = r.cert.rows;
  vector = _;
  accepted = record { cert = r.cert; rows_are = refl; vector_is = refl; valid = r.valid; narrow = r.narrow };
  least = r.least;
}

-- a check is a command of the program
pub checks : (program : Program) (given : List ℕ) (format : Format) → IsCommand (Check program given format)
checks program given format = record {
  lawful = record {
    ends_once = λ s t h k. check_ends_once program given s t (check_staged program given s (check_end_back program given s h))
        (check_staged program given t (check_end_back program given t k));
    exceeded_ends = λ excess s w h. absurd w;
    written_ends = done_ends (λ s. CheckEnds exact program given s) (λ bytes. IsChecked exact program given format bytes)
        (λ bytes r. commands.accepted r.names r.body r.rows r.vector refl r.accepted);
    never_unread = λ cause h. check_end_back program given (Read cause) h;
    never_unwritten = λ h. check_end_back program given Write h;
  };
  writes_once = λ none contents. done_once (λ bytes. IsChecked exact (source_with program contents) (text_at contents 1) format bytes)
      (checked_once (source_with program contents) (text_at contents 1) format);
  limits = λ contents range e. first_short (which.Program, program.text) ((which.Certificate, given) ∷ []) contents e;
}

check_by : List Row → Program → (certificate : WordText) → Option Request
check_by given program certificate = option_map (λ format. Check program certificate format) (format_in formats given)

check_of : List Row → Program → Option Request
check_of given program = option_and_then (check_by given program) (first_of (codes "certificate") given)

-- it has no number
pub check_range : (given : List Row) (r : Request) → check_in given ≡ Some r → IsInRange r
unfolding check_of check_by
check_range given r e =
    let p = and_then_some (check_of given) (source_in given) r e in
    let q = and_then_some (check_by given p.0) (first_of (codes "certificate") given) r p.2 in
    let made : Format → Request = λ format. Check p.0 q.0 format in
    ranged made (format_in formats given) r q.2 (λ format. tt)

-- ---- its result

check_says : (program : Program) (given : List ℕ) (format : Format) (x : Refusal) → IsAnswerToCheck program given (refused x)
    → Says (command_of exact (Check program given format)) (refused x) []
check_says program given format (refusal.Text c) h = (check_end program given (Text c) h, refl)
check_says program given format (refusal.Certificate c) h = (check_end program given (Refused c) h, refl)
check_says program given format (refusal.Exceeded excess) h = (inl (check_end program given (Exceeded excess) h), refl)
check_says program given format (refusal.Spent n) h = absurd h
check_says program given format refusal.NoMemory h = refl

-- a certificate that is spelt, and its report or why there is none
pub reported : (program : Program) (given : List ℕ) (format : Format) (names : _) (body : _) (cert : _) (r : Result (Vec ℕ Global) Refusal)
    (s : Status)
    (bytes : List ℕ) → IsSpelt program given names body cert
    → IfOk r (λ made. (t : Program) (g : List ℕ) → IsSpelt t g names body cert → IsReportBy t g format made.items)
    → IfErr r (λ x. GetsNoReport names body cert x) → HasOutcome r s bytes → Says (command_of exact (Check program given format)) s bytes
reported program given format names body cert (Ok made) s bytes spelt ok err h =
    outcome_says (command_of exact (Check program given format)) (Ok made) s bytes
    (checked program given format made.items (ok program given spelt))
    tt h
reported program given format names body cert (Err x) s bytes spelt ok err h =
    outcome_says (command_of exact (Check program given format)) (Err x) s bytes tt
    (check_says program given format x (unreported_answers program given names body cert x spelt err)) h

-- a text or bytes that spell no certificate of it
pub unspelt : (program : Program) (given : List ℕ) (format : Format) (x : Refusal) (s : Status) (bytes : List ℕ) → IsUnspelt program given x
    → (s ≡ refused x) × (bytes ≡ []) → Says (command_of exact (Check program given format)) s bytes
unspelt program given format x s bytes h (e, i) = subst₂ (λ t b. Says (command_of exact (Check program given format)) t b) (sym e) (sym i)
    (check_says program given format x (unspelt_answers program given x h))
