-- What an answer says, part by part: of the texts of a command, of a request, and of words.
use Rattle.std.specs.Prelude.{◌≡◌, ◌⊎◌, ℕ, List, [], Result, Ok, Err, Some, None, Vec}
use Rattle.std.specs.declared.alloc.Global.{Global}
use Rattle.ask_words.specs.Request.{request_of}
use Rattle.ask_files.specs.Files.{with_texts}
use Rattle.top_answer.specs.Commands.{Command, Commands, command_of}
use Rattle.ask_files.specs.Files.{Request, files_of, unread}
use Rattle.top_status.specs.CheckMessages.{rows_of}
use Rattle.top_status.specs.Messages.{line_in, message_of}
use Rattle.ask_files.specs.declared.which.ReadCause.{ReadCause}
use Rattle.top_status.specs.declared.status.Status.{Status}
use Rattle.top_status.specs.declared.status.Status.TheVariants.{Done, Open, Usage, Read, Exceeded, Memory}
use Rattle.top_texts.specs.CheckTexts.{ending_of}
use Rattle.top_texts.specs.Exact.{exact}
use Rattle.top_texts.specs.Outcomes.{refused}
use Rattle.top_texts.specs.declared.refusal.Refusal.{Refusal}
use Rattle.top_texts.specs.declared.verify.Judged.{Judged}

-- a status and bytes say of the texts of a command: the bytes are written where it is done or a check is open, and there are none else; an
-- ending stands, or what exceeds exact work; want of memory needs no cause
abbrev pub Says : Command → Status → List ℕ → Type 0
Says command Done bytes = command.writes Done bytes
Says command Open bytes = command.writes Open bytes
Says command (Exceeded excess) bytes = (command.ends (Exceeded excess) ⊎ command.exceeds excess) × (bytes ≡ [])
Says command Memory bytes = bytes ≡ []
Says command status bytes = command.ends status × (bytes ≡ [])

-- the status and the bytes of a result: those that it has, or none with the status of its refusal
abbrev pub HasOutcome : Result (Vec ℕ Global) Refusal → Status → List ℕ → Type 0
HasOutcome (Ok made) status bytes = (status ≡ Done) × (bytes ≡ made.items)
HasOutcome (Err refusal) status bytes = (status ≡ refused refusal) × (bytes ≡ [])

-- those of verdicts on checks: the ending says whether one is open
abbrev pub HasVerdicts : Result Judged Refusal → Status → List ℕ → Type 0
HasVerdicts (Ok judged) status bytes = (status ≡ ending_of judged.is_open) × (bytes ≡ judged.bytes.items)
HasVerdicts (Err refusal) status bytes = (status ≡ refused refusal) × (bytes ≡ [])

-- the message of an ending of the texts of a command names the line in its text, and an unknown by its rows
pub record NamesPlace (asked : Request) (status : Status) (message : List ℕ) : Type 0 where
  pub line : ℕ
  pub rows : ℕ
  pub is_message : message ≡ message_of line rows status
  pub line_is : line ≡ line_in ((command_of exact asked).named status) status
  pub rows_are : (count : ℕ) → (command_of exact asked).has_rows count → rows ≡ rows_of count status

-- what an answer says of a request and of the contents of its files: one of them isn't read; or it is an answer to their texts; or memory
-- was wanted before
pub data AnswersRequest (commands : Commands) (request : Request) (contents : List (List ℕ)) (status : Status) (bytes message : List ℕ) :
    Type 0 where
  not_read : (cause : ReadCause) → unread (files_of request) contents ≡ Some cause → status ≡ Read cause → bytes ≡ []
      → message ≡ message_of 0 0 status → AnswersRequest commands request contents status bytes message
  answers_texts : unread (files_of request) contents ≡ None → Says (commands (with_texts request contents)) status bytes
      → NamesPlace (with_texts request contents) status message → AnswersRequest commands request contents status bytes message
  wants_memory : status ≡ Memory → bytes ≡ [] → message ≡ message_of 0 0 status
      → AnswersRequest commands request contents status bytes message

-- what an answer says of words and of the contents of the files that they name
pub data AnswersWords (commands : Commands) (words contents : List (List ℕ)) (status : Status) (bytes message : List ℕ) : Type 0 where
  asked : (request : Request) → request_of words ≡ Some request → AnswersRequest commands request contents status bytes message
      → AnswersWords commands words contents status bytes message
  unasked : request_of words ≡ None → status ≡ Usage → bytes ≡ [] → message ≡ message_of 0 0 status
      → AnswersWords commands words contents status bytes message
  no_memory : status ≡ Memory → bytes ≡ [] → message ≡ message_of 0 0 status → AnswersWords commands words contents status bytes message
