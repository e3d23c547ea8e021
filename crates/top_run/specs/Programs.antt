-- What a program has to keep to, so that a run of it is what is promised.
use Rattle.std.specs.Prelude.{◌≡◌, ℕ, List}
use Rattle.ask_files.specs.Files.{Request}
use Rattle.ask_files.specs.declared.which.ReadCause.{ReadCause}
use Rattle.top_answer.specs.Commands.{Commands}
use Rattle.top_status.specs.Messages.{message_of}
use Rattle.top_status.specs.declared.status.Status.{Status}
use Rattle.top_status.specs.declared.status.Status.TheVariants.{Memory, Read, Write}
use Rattle.top_texts.specs.Meanings.{Meanings}

-- commands end by what their texts are: never by a put or a read that failed, which are causes of the run
pub record EndsInside (commands : Commands) : Type 0 where
  pub writes : (asked : Request) → (commands asked).ends Write → ⊥
  pub reads : (asked : Request) (cause : ReadCause) → (commands asked).ends (Read cause) → ⊥

-- the message of an ending names no place
pub record NamesNoPlace (m : Meanings) (status : Status) : Type 0 where
  pub message : m.message 0 0 status ≡ message_of 0 0 status
  pub line : (text : List ℕ) → 0 ≡ m.line_named text status
  pub rows : (count : ℕ) → 0 ≡ m.rows_named count status

-- neither that of want of memory nor that of an output that failed does
pub record IsPlain (m : Meanings) : Type 0 where
  pub memory : NamesNoPlace m Memory
  pub write : NamesNoPlace m Write
