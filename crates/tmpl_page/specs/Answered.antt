-- What the call of the page gives: where the bytes of an answer lie, and what they are.
use Rattle.std.specs.Prelude.{◌≡◌, ◌<◌, ◌≤◌, ◌+◌, ◌++◌, ℕ, List, All, drop, length}
use Rattle.std.specs.Str.{IsUtf8}
use Rattle.top_answer.specs.Commands.{Commands}
use Rattle.top_run.specs.Parts.{IsAnswerTo}
use Rattle.top_status.specs.Status.{code_of}
use Rattle.top_status.specs.declared.status.Status.{Status}
use Rattle.top_texts.specs.Meanings.{Meanings}

-- the output and the message stand one behind the other at the beginning of the room; where they are longer than it, it is as it was
pub data IsPlaced (output message room room_now : List ℕ) : Type 0 where
  fits : length output + length message ≤ length room → room_now ≡ output ++ message ++ drop (length output + length message) room
      → IsPlaced output message room room_now
  longer : length room < length output + length message → room_now ≡ room → IsPlaced output message room room_now

-- an answer to words over these contents, as `answer` promises it, by its exit code, by the lengths of its output and of its message, and
-- by where these are placed
pub record IsPlacedAnswer (commands : Commands) (m : Meanings) (words contents : List (List ℕ)) (code output_length message_length : ℕ)
    (room room_now : List ℕ) : Type 0 where
  pub status : Status
  pub output : List ℕ
  pub message : List ℕ
  pub is_answer : IsAnswerTo commands m words contents status output message
  pub code_is : code ≡ code_of status
  pub output_length_is : output_length ≡ length output
  pub message_length_is : message_length ≡ length message
  pub placed : IsPlaced output message room room_now

-- the words are answered; or one of them is no text, and then the code is 9 and nothing is placed
pub data IsAnswered (commands : Commands) (m : Meanings) (words contents : List (List ℕ)) (code output_length message_length : ℕ)
    (room room_now : List ℕ) : Type 0 where
  answered : IsPlacedAnswer commands m words contents code output_length message_length room room_now
      → IsAnswered commands m words contents code output_length message_length room room_now
  no_words : (All IsUtf8 words → ⊥) → code ≡ 9 → output_length ≡ 0 → message_length ≡ 0 → room_now ≡ room
      → IsAnswered commands m words contents code output_length message_length room room_now
