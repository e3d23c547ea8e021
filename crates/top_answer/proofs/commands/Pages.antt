-- The pages of `help`, for which nothing is read.
use Rattle.std.proofs.Common.{◌≡◌, ◌∙◌, ℕ, List, [], refl, sym}
use Rattle.std.specs.Prelude.{IfOk, IfErr, Result, Some, Vec, codes}
use Rattle.std.specs.declared.alloc.Global.{Global}
use Rattle.clap.specs.Words.{Row, first_of}
use Rattle.ask_files.specs.Files.{Request}
use Rattle.ask_files.specs.declared.which.ReadCause.{ReadCause}
use Rattle.ask_words.specs.Help.{help_text, topic_in}
use Rattle.ask_words.specs.Request.{help_in}
use Rattle.ask_words.specs.declared.help.Topic.{Topic}
use Rattle.ask_words.specs.declared.request.Request.TheVariants.{Help}
use Rattle.top_answer.specs.Commands.{command_of}
use Rattle.top_answer.specs.Outcomes.{HasOutcome, Says}
use Rattle.top_status.specs.declared.status.Status.{Status}
use Rattle.top_status.specs.declared.status.Status.TheVariants.{Done, Read, Write}
use Rattle.top_texts.specs.Exact.{exact}
use Rattle.top_texts.specs.Outcomes.{refused}
use Rattle.top_texts.specs.declared.refusal.Refusal.{Refusal}
use Rattle.top_texts.specs.declared.refusal.Refusal.TheVariants as refusal
use Rattle.top_answer.proofs.commands.Lawful.{IsCommand, IsInRange, done_ends, done_once}
use Rattle.top_answer.proofs.commands.Results.{err_map, outcome_says}
use Rattle.top_answer.proofs.requests.Numbers.{ranged}

never_unread : (cause : ReadCause) → Read cause ≡ Done → ⊥
never_unread cause e = cc

never_unwritten : Write ≡ Done → ⊥
never_unwritten e = cc

-- a page is a command of the program
pub pages : (topic : Topic) → IsCommand (Help topic)
pages topic = record {
  lawful = record {
    ends_once = λ s t h k. h ∙ sym k;
    exceeded_ends = λ excess s w h. absurd w;
    written_ends = done_ends (λ s. s ≡ Done) (λ bytes. bytes ≡ help_text topic) (λ bytes w. refl);
    never_unread = never_unread;
    never_unwritten = never_unwritten;
  };
  writes_once = λ none contents. done_once (λ bytes. bytes ≡ help_text topic) (λ one other h k. h ∙ sym k);
  limits = λ contents range e. tt;
}

-- it has no number
pub help_range : (given : List Row) (r : Request) → help_in given ≡ Some r → IsInRange r
help_range given r e =
    let made : Topic → Request = λ topic. Help topic in
    ranged made (topic_in (first_of (codes "command") given)) r e (λ topic. tt)

unwritten_says : (topic : Topic) (x : Refusal) → x ≡ refusal.NoMemory → Says (command_of exact (Help topic)) (refused x) []
unwritten_says topic x e = rw e refl

-- a page, or want of memory
pub helped : (topic : Topic) (r : Result (Vec ℕ Global) Refusal) (s : Status) (bytes : List ℕ)
    → IfOk r (λ made. made.items ≡ help_text topic) → IfErr r (λ x. x ≡ refusal.NoMemory) → HasOutcome r s bytes
    → Says (command_of exact (Help topic)) s bytes
helped topic r s bytes ok err h = outcome_says (command_of exact (Help topic)) r s bytes ok
    (err_map (λ x. x ≡ refusal.NoMemory) _ (unwritten_says topic) r err) h
