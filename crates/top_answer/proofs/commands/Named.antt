-- The names of a file's functions.
use Rattle.std.proofs.Common.{◌≡◌, ◌∙◌, ℕ, List, [], refl, sym, ap}
use Rattle.std.specs.Prelude.{IfOk, IfErr, Result, Some, Vec, codes}
use Rattle.std.specs.declared.alloc.Global.{Global}
use Rattle.clap.specs.Words.{Row, Text as WordText, first_of}
use Rattle.ask_files.specs.Files.{Request, text_at}
use Rattle.ask_files.specs.declared.which.ReadCause.{ReadCause}
use Rattle.ask_files.specs.declared.which.Which.TheVariants as which
use Rattle.ask_words.specs.Request.{functions_in}
use Rattle.ask_words.specs.declared.request.Request.TheVariants.{Functions}
use Rattle.top_answer.specs.Commands.{FunctionsEnd, command_of, file_refused, names_listed}
use Rattle.top_answer.specs.Outcomes.{HasOutcome, Says}
use Rattle.top_status.specs.declared.status.Status.{Status}
use Rattle.top_status.specs.declared.status.Status.TheVariants.{Done, Read, Text, Write}
use Rattle.top_texts.specs.Exact.{exact}
use Rattle.top_texts.specs.FunctionTexts.{AreFunctionsOf}
use Rattle.top_texts.specs.Outcomes.{AreUnlisted, refused}
use Rattle.top_texts.specs.declared.refusal.Refusal.{Refusal}
use Rattle.top_texts.specs.declared.refusal.Refusal.TheVariants as refusal
use Rattle.top_texts.proofs.function_texts.Once.{functions_once, functions_refused_once, listed_unrefused}
use Rattle.top_answer.proofs.commands.Lawful.{IsCommand, IsInRange, done_ends, done_once}
use Rattle.top_answer.proofs.commands.Results.{err_map, outcome_says}
use Rattle.top_answer.proofs.requests.Limits.{first_short}
use Rattle.top_answer.proofs.requests.Numbers.{ranged}

ends_once : (text : List ℕ) (s t : Status) → FunctionsEnd text s → FunctionsEnd text t → s ≡ t
ends_once text s t (file_refused c e h) (file_refused d i k) = e ∙ ap (λ x. Text x) (functions_refused_once text c d h k) ∙ sym i
ends_once text s t (file_refused c e h) (names_listed names i a) = absurd (listed_unrefused text names c h a)
ends_once text s t (names_listed names e a) (file_refused c i k) = absurd (listed_unrefused text names c k a)
ends_once text s t (names_listed names e a) (names_listed others i b) = e ∙ sym i

never_unread : (text : List ℕ) (cause : ReadCause) → FunctionsEnd text (Read cause) → ⊥
never_unread text read (file_refused cause e h) = cc
never_unread text read (names_listed names e h) = cc

never_unwritten : (text : List ℕ) → FunctionsEnd text Write → ⊥
never_unwritten text (file_refused cause e h) = cc
never_unwritten text (names_listed names e h) = cc

-- they are a command of the program
pub functions : (text : List ℕ) → IsCommand (Functions text)
functions text = record {
  lawful = record {
    ends_once = ends_once text;
    exceeded_ends = λ excess s w h. absurd w;
    written_ends = done_ends (λ s. FunctionsEnd text s) (λ bytes. AreFunctionsOf text bytes) (λ bytes f. names_listed f.names refl f.lists);
    never_unread = never_unread text;
    never_unwritten = never_unwritten text;
  };
  writes_once = λ none contents. done_once (λ bytes. AreFunctionsOf (text_at contents 0) bytes) (functions_once (text_at contents 0));
  limits = λ contents range e. first_short (which.Program, text) [] contents e;
}

-- they have no number
pub functions_range : (given : List Row) (r : Request) → functions_in given ≡ Some r → IsInRange r
functions_range given r e =
    let made : WordText → Request = λ file. Functions file in
    ranged made (first_of (codes "program") given) r e (λ file. tt)

unlisted_says : (text : List ℕ) (x : Refusal) → AreUnlisted text x → Says (command_of exact (Functions text)) (refused x) []
unlisted_says text (refusal.Text cause) h = (file_refused cause refl h, refl)
unlisted_says text (refusal.Certificate cause) h = absurd h
unlisted_says text (refusal.Exceeded excess) h = absurd h
unlisted_says text (refusal.Spent n) h = absurd h
unlisted_says text refusal.NoMemory h = refl

-- the names, or why there are none
pub listed : (text : List ℕ) (r : Result (Vec ℕ Global) Refusal) (s : Status) (bytes : List ℕ)
    → IfOk r (λ made. AreFunctionsOf text made.items) → IfErr r (λ x. AreUnlisted text x) → HasOutcome r s bytes
    → Says (command_of exact (Functions text)) s bytes
listed text r s bytes ok err h = outcome_says (command_of exact (Functions text)) r s bytes ok
    (err_map (λ x. AreUnlisted text x) _ (unlisted_says text) r err) h
