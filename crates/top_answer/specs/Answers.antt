-- What an answer says of the words and of the contents of the files that they name.
use Rattle.std.specs.Prelude.{◌≡◌, ℕ, IsTrue, List, [], Some, None}
use Rattle.ask_words.specs.Request.{request_of}
use Rattle.ask_files.specs.Files.{with_texts}
use Rattle.top_answer.specs.Commands.{Commands, command_of}
use Rattle.ask_files.specs.Files.{Request, files_of, unread}
use Rattle.ask_files.specs.declared.which.ReadCause.{ReadCause}
use Rattle.top_status.specs.Status.{has_output}
use Rattle.top_status.specs.declared.status.Excess.{Excess}
use Rattle.top_status.specs.declared.status.Status.{Status}
use Rattle.top_status.specs.declared.status.Status.TheVariants.{Done, Open, Usage, Read, Exceeded, Spent, Memory}
use Rattle.top_texts.specs.Meanings.{Meanings}

-- the words ask for this command over these texts: their request, with the contents in place of the names of its files, each of which is
-- read
pub record Asks (words contents : List (List ℕ)) (asked : Request) : Type 0 where
  pub request : Request
  pub request_is : request_of words ≡ Some request
  pub all_read : unread (files_of request) contents ≡ None
  pub asked_is : asked ≡ with_texts request contents

-- ---- the ending that stands, where there is memory and nothing exceeds exact work

-- the words ask for nothing; or a file of their request isn't read; or the texts decide
pub data Ends (commands : Commands) (words contents : List (List ℕ)) (ending : Status) : Type 0 where
  unasked : request_of words ≡ None → ending ≡ Usage → Ends commands words contents ending
  not_read : (request : Request) (cause : ReadCause) → request_of words ≡ Some request → unread (files_of request) contents ≡ Some cause
      → ending ≡ Read cause → Ends commands words contents ending
  decided : (asked : Request) → Asks words contents asked → (commands asked).ends ending → Ends commands words contents ending

-- this exceeds exact work on the way of what the words ask for: an operation that is too wide, or a joint problem that is too large
pub record IsExceeded (commands : Commands) (words contents : List (List ℕ)) (excess : Excess) : Type 0 where
  pub asked : Request
  pub asks : Asks words contents asked
  pub exceeds : (commands asked).exceeds excess

-- the answer is an ending of the words over these contents; or what may come in place of one, for a cause that stands; want of memory
-- needs none
pub data IsAnswer (commands : Commands) (words contents : List (List ℕ)) (status : Status) : Type 0 where
  is_ending : Ends commands words contents status → IsAnswer commands words contents status
  is_exceeded : (excess : Excess) → status ≡ Exceeded excess → IsExceeded commands words contents excess
      → IsAnswer commands words contents status
  is_memory : status ≡ Memory → IsAnswer commands words contents status

-- ---- what is answered where an ending stands

-- an ending that improvements decide
pub data IsOfRounds (ending : Status) : Type 0 where
  of_ended : ending ≡ Done → IsOfRounds ending
  of_open : ending ≡ Open → IsOfRounds ending
  of_spent : (number : ℕ) → ending ≡ Spent number → IsOfRounds ending

-- the ending is answered; or, in its place, want of memory, or for an ending that improvements decide what exceeds exact work
pub data IsAnsweredBy (commands : Commands) (words contents : List (List ℕ)) (ending status : Status) : Type 0 where
  given : status ≡ ending → IsAnsweredBy commands words contents ending status
  no_memory : status ≡ Memory → IsAnsweredBy commands words contents ending status
  exceeded : (excess : Excess) → status ≡ Exceeded excess → IsExceeded commands words contents excess → IsOfRounds ending
      → IsAnsweredBy commands words contents ending status

-- ---- the bytes

-- the bytes are what is written of the texts that the words ask about, at this ending
pub record IsOutput (commands : Commands) (words contents : List (List ℕ)) (ending : Status) (bytes : List ℕ) : Type 0 where
  pub asked : Request
  pub asks : Asks words contents asked
  pub written : (commands asked).writes ending bytes

-- an answer has all of it where it is done or a check is open, and no bytes else
pub data Holds (IsIt : Status → List ℕ → Type 0) (status : Status) (bytes : List ℕ) : Type 0 where
  whole : IsTrue (has_output status) → IsIt status bytes → Holds IsIt status bytes
  nothing : (IsTrue (has_output status) → ⊥) → bytes ≡ [] → Holds IsIt status bytes

-- ---- the message

-- this is the message of an ending: by the line in the text that it names, and by the rows of each point
pub record IsMessage (m : Meanings) (words contents : List (List ℕ)) (status : Status) (message : List ℕ) : Type 0 where
  pub line : ℕ
  pub rows : ℕ
  pub is_message : message ≡ m.message line rows status
  pub line_is : (asked : Request) → Asks words contents asked → line ≡ m.line_named ((command_of m asked).named status) status
  pub rows_are : (asked : Request) (count : ℕ) → Asks words contents asked → (command_of m asked).has_rows count
      → rows ≡ m.rows_named count status
