-- What the parts of a run say to one another.
use Rattle.std.specs.Prelude.{◌≡◌, ◌<◌, ◌++◌, ◌⊎◌, ℕ, IsTrue, List, [], Result, Ok, Err, IsErr, length, take}
use Rattle.std.specs.Io.KnownBytes.{Appends}
use Rattle.std.specs.declared.alloc.AllocError.{AllocError}
use Rattle.ask_files.specs.Files.{Request, files_of}
use Rattle.ask_files.specs.Loads.{LoadsEnd, contents_of}
use Rattle.base_files.specs.Faults.{Rose}
use Rattle.base_files.specs.Loads.{LoadedFile}
use Rattle.base_files.specs.Puts.{AddsPieces, Put}
use Rattle.base_files.specs.declared.sink.PutFault.TheVariants.{Failed, NoMemory}
use Rattle.top_answer.specs.Answers.{IsAnsweredBy, Ends, Holds, IsAnswer, IsMessage, IsOutput}
use Rattle.top_answer.specs.Commands.{Commands}
use Rattle.top_run.specs.Lines.{cut_by}
use Rattle.top_run.specs.Loading.{IsLoading}
use Rattle.top_run.specs.declared.output.Pieces.{Pieces}
use Rattle.top_status.specs.Messages.{message_of}
use Rattle.top_run.specs.Seen.{ShelfSeen, SinkSeen}
use Rattle.top_status.specs.Status.{has_output}
use Rattle.top_status.specs.declared.status.Status.{Status}
use Rattle.top_status.specs.declared.status.Status.TheVariants.{Done, Memory, Write}
use Rattle.top_texts.specs.Meanings.{Meanings}

-- this is an answer to words over these contents: all that an answer promises
pub record IsAnswerTo (commands : Commands) (m : Meanings) (words contents : List (List ℕ)) (status : Status) (bytes message : List ℕ) :
    Type 0 where
  pub answer : IsAnswer commands words contents status
  pub output : Holds (IsOutput commands words contents) status bytes
  pub complete : (ending : Status) → Ends commands words contents ending → IsAnsweredBy commands words contents ending status
  pub names : IsMessage m words contents status message

-- the files of a request were loaded, up to the first that isn't read; where memory was wanted before, nothing was loaded
pub record IsRequestLoaded (request : Request) (shelf shelf_now : ShelfSeen) (result : Result (Unit {0}) AllocError) : Type 0 where
  pub made : List LoadedFile
  pub log : shelf_now.loads ≡ shelf.loads ++ made
  pub kept : shelf_now.files ≡ shelf.files
  pub ends : LoadsEnd shelf.files (files_of request) made shelf.faults shelf_now.faults shelf_now.last_failed result
      ⊎ ((made ≡ []) × (shelf_now.faults ≡ shelf.faults) × IsErr result)

-- it is one to words over the files that they name, as they were loaded
pub record IsAnswerOver (commands : Commands) (m : Meanings) (words : List (List ℕ)) (shelf shelf_now : ShelfSeen) (status : Status)
    (bytes message : List ℕ) : Type 0 where
  pub made : List LoadedFile
  pub log : shelf_now.loads ≡ shelf.loads ++ made
  pub loads : IsLoading words made shelf shelf_now status
  pub kept : shelf_now.files ≡ shelf.files
  pub is_answer : IsAnswerTo commands m words (contents_of made) status bytes message

-- bytes are put in these pieces: all where it is done, and else a part, since a put failed or they are longer than the spare
pub data IsPutBy (cut : List ℕ → List (List ℕ)) (bytes : List ℕ) (status : Status) (out out_now : SinkSeen) : Type 0 where
  whole : status ≡ Done → Appends out.held out_now.held bytes → AddsPieces out.taken out_now.taken (cut bytes)
      → out_now.faults ≡ out.faults → IsPutBy cut bytes status out out_now
  failed : status ≡ Write → (n : ℕ) → Appends out.held out_now.held (take n bytes) → Rose out.faults out_now.faults
      → IsPutBy cut bytes status out out_now
  wanting : status ≡ Memory → (n : ℕ) → Appends out.held out_now.held (take n bytes) → out.spare < length bytes
      → out_now.faults ≡ out.faults → IsPutBy cut bytes status out out_now

-- the answer that a run ends with: the one given, where it has no output or its bytes are put; else another one for the put
pub data PutsAnswer (pieces : Pieces) (status : Status) (bytes message : List ℕ) (out out_now : SinkSeen) (status_now : Status)
    (message_now : List ℕ) : Type 0 where
  is_kept : (IsTrue (has_output status) → ⊥) → status_now ≡ status → message_now ≡ message → out_now ≡ out
      → PutsAnswer pieces status bytes message out out_now status_now message_now
  is_put : IsTrue (has_output status) → status_now ≡ status → message_now ≡ message → IsPutBy (cut_by pieces) bytes Done out out_now
      → PutsAnswer pieces status bytes message out out_now status_now message_now
  is_not_put : IsTrue (has_output status) → (status_now ≡ Done → ⊥) → message_now ≡ message_of 0 0 status_now
      → IsPutBy (cut_by pieces) bytes status_now out out_now → PutsAnswer pieces status bytes message out out_now status_now message_now

-- how a put ends
abbrev pub status_of : Put → Status
status_of (Ok done) = Done
status_of (Err Failed) = Write
status_of (Err NoMemory) = Memory
