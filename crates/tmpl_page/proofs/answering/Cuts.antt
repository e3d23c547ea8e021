-- Pieces that are cut into words and contents, and answers over these.
use Rattle.std.proofs.Common.{◌≡◌, ◌∙◌, ℕ, List, Bor, ap, drop, length, min, subst, sym, take}
use Rattle.std.proofs.lemmas.List.{drop-map, drop_min, take-map, take_min}
use Rattle.ask_files.specs.Files.{texts_of}
use Rattle.top_answer.specs.Answers.{IsAnsweredBy, Ends, Holds, IsAnswer, IsMessage, IsOutput}
use Rattle.top_answer.specs.Commands.{Commands}
use Rattle.top_run.specs.Parts.{IsAnswerTo}
use Rattle.top_run.proofs.parts.Answering.{same_contents}
use Rattle.top_status.specs.declared.status.Status.{Status}
use Rattle.top_texts.specs.Meanings.{Meanings}

-- the texts of the first pieces, so many of them or all
pub first_texts : (pieces : List (Bor (List ℕ))) (count : ℕ)
    → texts_of (take (min count (length pieces)) pieces) ≡ take count (texts_of pieces)
first_texts pieces count = ap texts_of (take_min count pieces) ∙ sym (take-map (λ text. text.now) count pieces)

-- those of the others
pub last_texts : (pieces : List (Bor (List ℕ))) (count : ℕ)
    → texts_of (drop (min count (length pieces)) pieces) ≡ drop count (texts_of pieces)
last_texts pieces count = ap texts_of (drop_min count pieces) ∙ sym (drop-map (λ text. text.now) count pieces)

-- an answer to words over contents, by other names for both
pub by_other_names : (commands : Commands) (m : Meanings) (words others contents texts : List (List ℕ)) (status : Status)
    (bytes message : List ℕ) → words ≡ others → contents ≡ texts → IsAnswer commands words contents status
    → Holds (IsOutput commands words contents) status bytes
    → ((ending : Status) → Ends commands words contents ending → IsAnsweredBy commands words contents ending status)
    → IsMessage m words contents status message → IsAnswerTo commands m others texts status bytes message
by_other_names commands m words others contents texts status bytes message same_words same answer output complete names =
    subst (λ w. IsAnswerTo commands m w texts status bytes message) same_words
    (same_contents commands m words contents texts status bytes message same answer output complete names)
