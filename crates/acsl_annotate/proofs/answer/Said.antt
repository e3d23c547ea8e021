-- The message of an ending, where the usage has a line of its own.
use Rattle.std.proofs.Common.{◌≡◌, ◌∙◌, ℕ, List, ap, refl, subst, sym}
use Rattle.ask_files.specs.Files.{Request}
use Rattle.ask_words.specs.declared.request.Request.TheVariants.{Analyse}
use Rattle.top_answer.specs.Answers.{IsMessage}
use Rattle.top_answer.specs.Commands.{command_of}
use Rattle.top_status.specs.declared.status.Status.{Status}
use Rattle.top_texts.specs.Exact.{exact}
use Rattle.acsl_annotate.specs.Messages.{said_for, saying}

-- the text whose line is named is the same, and so are the rows
same_text : (asked : Request) (s : Status) → (command_of (saying exact) asked).named s ≡ (command_of exact asked).named s
same_text (Analyse purpose a format) s = refl
same_text asked s = refl

same_rows : (asked : Request) (count : ℕ) → (command_of (saying exact) asked).has_rows count → (command_of exact asked).has_rows count
same_rows (Analyse purpose a format) count h = h
same_rows asked count h = h

said : (words contents : List (List ℕ)) (s : Status) (message shown : List ℕ) → shown ≡ said_for s message
    → IsMessage exact words contents s message → IsMessage (saying exact) words contents s shown
said words contents s message shown h m = record {
  line = m.line;
  rows = m.rows;
  is_message = h ∙ ap (λ x. said_for s x) m.is_message;
  line_is = λ asked a. m.line_is asked a ∙ ap (λ text. exact.line_named text s) (sym (same_text asked s));
  rows_are = λ asked count a has. m.rows_are asked count a (same_rows asked count has);
}

-- a message of `solve` is said, but for the usage
pub is_said : (words contents : List (List ℕ)) (s now : Status) (message shown : List ℕ) → now ≡ s → shown ≡ said_for s message
    → IsMessage exact words contents s message → IsMessage (saying exact) words contents now shown
is_said words contents s now message shown e h m =
    subst (λ x. IsMessage (saying exact) words contents x shown) (sym e) (said words contents s message shown h m)
