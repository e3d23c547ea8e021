-- Answers for want of memory, and answers over contents by another name.
use Rattle.std.proofs.Common.{◌≡◌, ◌∙◌, ℕ, List, [], refl, sym, subst}
use Rattle.std.specs.Prelude.{IsTrue}
use Rattle.top_answer.specs.Answers as answers
use Rattle.top_answer.specs.Answers.{IsAnsweredBy, Ends, Holds, IsAnswer, IsMessage, IsOutput}
use Rattle.top_answer.specs.Commands.{Commands, command_of}
use Rattle.top_run.specs.Parts.{IsAnswerTo}
use Rattle.top_run.specs.Programs.{NamesNoPlace}
use Rattle.top_status.specs.Messages.{message_of}
use Rattle.top_status.specs.Status.{has_output}
use Rattle.top_status.specs.declared.status.Status.{Status}
use Rattle.top_status.specs.declared.status.Status.TheVariants.{Memory}
use Rattle.top_texts.specs.Meanings.{Meanings}
use Rattle.top_texts.proofs.analyses.Found.{no_output}

-- a message that names no place
pub placeless : (m : Meanings) (words contents : List (List ℕ)) (status : Status) (message : List ℕ) → NamesNoPlace m status
    → message ≡ message_of 0 0 status → IsMessage m words contents status message
placeless m words contents status message plain is = record {
  line = 0;
  rows = 0;
  is_message = is ∙ sym plain.message;
  line_is = λ asked asks. plain.line ((command_of m asked).named status);
  rows_are = λ asked count asks has. plain.rows count;
}

-- want of memory has no output
pub memory_without : (s : Status) → s ≡ Memory → IsTrue (has_output s) → ⊥
memory_without s e = no_output s Memory e refl

memory_itself : (commands : Commands) (m : Meanings) → NamesNoPlace m Memory → (words contents : List (List ℕ)) (bytes message : List ℕ)
    → bytes ≡ [] → message ≡ message_of 0 0 Memory → IsAnswerTo commands m words contents Memory bytes message
memory_itself commands m plain words contents bytes message none is = record {
  answer = answers.is_memory refl;
  output = answers.nothing (memory_without Memory refl) none;
  complete = λ ending h. answers.no_memory refl;
  names = placeless m words contents Memory message plain is;
}

-- want of memory is an answer to any words over any contents
pub for_memory : (commands : Commands) (m : Meanings) → NamesNoPlace m Memory → (words contents : List (List ℕ)) (status : Status)
    (bytes message : List ℕ) → status ≡ Memory → bytes ≡ [] → message ≡ message_of 0 0 Memory
    → IsAnswerTo commands m words contents status bytes message
for_memory commands m plain words contents status bytes message e none is =
    subst (λ s. IsAnswerTo commands m words contents s bytes message) (sym e)
    (memory_itself commands m plain words contents bytes message none is)

-- ---- the contents

-- an answer over contents, by another name for them
pub same_contents : (commands : Commands) (m : Meanings) (words contents others : List (List ℕ)) (status : Status) (bytes message : List ℕ)
    → contents ≡ others → IsAnswer commands words contents status → Holds (IsOutput commands words contents) status bytes
    → ((ending : Status) → Ends commands words contents ending → IsAnsweredBy commands words contents ending status)
    → IsMessage m words contents status message → IsAnswerTo commands m words others status bytes message
same_contents commands m words contents others status bytes message same answer output complete names =
    subst (λ texts. IsAnswerTo commands m words texts status bytes message) same
    (record { answer = answer; output = output; complete = complete; names = names })

-- the same of all that an answer promises
pub over_contents : (commands : Commands) (m : Meanings) (words contents others : List (List ℕ)) (status : Status) (bytes message : List ℕ)
    → contents ≡ others → IsAnswerTo commands m words contents status bytes message
    → IsAnswerTo commands m words others status bytes message
over_contents commands m words contents others status bytes message same h =
    subst (λ texts. IsAnswerTo commands m words texts status bytes message) same h
