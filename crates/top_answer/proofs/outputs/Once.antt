-- Words and contents have one output, unless they ask for a certificate.
use Rattle.std.proofs.Common.{◌≡◌, ◌≢◌, ◌∙◌, ℕ, List, ap, subst}
use Rattle.std.specs.Prelude.{Some}
use Rattle.ask_files.specs.Files.{Request}
use Rattle.ask_words.specs.Request.{request_of}
use Rattle.ask_words.specs.declared.format.Format.{Format}
use Rattle.ask_words.specs.declared.request.Analysis.{Analysis}
use Rattle.ask_words.specs.declared.request.Purpose.TheVariants.{Certificate}
use Rattle.ask_words.specs.declared.request.Request.TheVariants.{Analyse}
use Rattle.top_texts.specs.Exact.{exact}
use Rattle.top_answer.specs.Answers.{Ends, IsOutput, decided}
use Rattle.top_answer.specs.Commands.{command_of}
use Rattle.top_status.specs.declared.status.Status.{Status}
use Rattle.top_answer.proofs.answers.OneEnding.{one_asked}
use Rattle.top_answer.proofs.commands.Table.{table}

-- words that ask for no certificate have one output over contents
pub one_output : (words contents : List (List ℕ)) (ending another : Status) (one other : List ℕ)
    → ((analysis : Analysis (List ℕ)) (format : Format) → request_of words ≢ Some (Analyse Certificate analysis format))
    → IsOutput (command_of exact) words contents ending one → IsOutput (command_of exact) words contents another other → one ≡ other
one_output words contents ending another one other none a b =
    (table a.asks.request).writes_once
    (λ analysis format e. none analysis format (a.asks.request_is ∙ ap (λ (r : Request). Some r) e)) contents ending another one other
    (subst (λ r. (command_of exact r).writes ending one) a.asks.asked_is a.written)
    (subst (λ r. (command_of exact r).writes another other) (one_asked words contents b.asked a.asked b.asks a.asks ∙ a.asks.asked_is)
    b.written)

-- it is written at an ending that they have
pub written_ending : (words contents : List (List ℕ)) (ending : Status) (bytes : List ℕ)
    → IsOutput (command_of exact) words contents ending bytes → Ends (command_of exact) words contents ending
written_ending words contents ending bytes o = decided o.asked o.asks ((table o.asked).lawful.written_ends ending bytes o.written)
