-- What a run promises.
use Rattle.std.specs.Prelude.{◌≡◌, ◌++◌, IsTrue, List, ℕ}
use Rattle.ask_files.specs.Loads.{contents_of}
use Rattle.ask_files.specs.declared.which.ReadCause.TheVariants.{Failed}
use Rattle.ask_files.specs.declared.which.Which.{Which}
use Rattle.base_files.specs.Loads.{LoadedFile}
use Rattle.top_answer.specs.Answers.{IsAnsweredBy, Ends, IsAnswer, IsMessage, IsOutput}
use Rattle.top_answer.specs.Commands.{Commands}
use Rattle.top_run.specs.Loading.{HasFailed, IsLoading}
use Rattle.top_run.specs.Messages.{GetsMessage, IsInOnePiece}
use Rattle.top_run.specs.Outputs.{OutputGets}
use Rattle.top_run.specs.Seen.{ShelfSeen, SinkSeen}
use Rattle.top_status.specs.Status.{has_output}
use Rattle.top_status.specs.declared.status.Status.{Status}
use Rattle.top_status.specs.declared.status.Status.TheVariants.{Read, Write}
use Rattle.top_texts.specs.Meanings.{Meanings}

-- the run ends with an answer to the words over these contents; or a put of its output failed, where there is one
pub data IsEnding (commands : Commands) (words contents : List (List ℕ)) (status : Status) : Type 0 where
  is_answer : IsAnswer commands words contents status → IsEnding commands words contents status
  is_unwritten : (ending : Status) → status ≡ Write → IsTrue (has_output ending) → Ends commands words contents ending
      → IsEnding commands words contents status

-- the ending that stands is given, or an answer in its place; or the output failed where there is one
pub data IsGiven (commands : Commands) (words contents : List (List ℕ)) (ending status : Status) : Type 0 where
  answered : IsAnsweredBy commands words contents ending status → IsGiven commands words contents ending status
  unwritten : status ≡ Write → IsTrue (has_output ending) → IsGiven commands words contents ending status

-- this is so where an ending stands: it is given, and where it is a refusal, the output is as it was
pub record Gives (commands : Commands) (words contents : List (List ℕ)) (ending status : Status) (out out_now : SinkSeen) : Type 0 where
  pub given : IsGiven commands words contents ending status
  pub unchanged : (IsTrue (has_output ending) → ⊥) → out_now ≡ out

-- the stream of messages gets this message of the ending
pub record IsTold (m : Meanings) (words contents : List (List ℕ)) (status : Status) (err err_now : SinkSeen) : Type 0 where
  pub message : List ℕ
  pub is_message : IsMessage m words contents status message
  pub gets : GetsMessage status message err.held err_now.held err.faults err_now.faults err.spare
  pub piece : IsInOnePiece message err.taken err_now.taken

-- a run over words, a shelf, an output and a stream of messages: what it loads, what it answers to the contents of these loads, and what it
-- puts
pub record IsRun (commands : Commands) (m : Meanings) (words : List (List ℕ)) (shelf shelf_now : ShelfSeen)
    (out out_now err err_now : SinkSeen) (status : Status) : Type 0 where
  -- The loads of this run, behind those before. They are of the files that the words name; what the shelf tells of its files stays.
  pub made : List LoadedFile
  pub log : shelf_now.loads ≡ shelf.loads ++ made
  pub loads : IsLoading words made shelf shelf_now status
  pub kept : shelf_now.files ≡ shelf.files
  -- Sound: what is answered is so of the words and of the contents of these loads, and so is what is put.
  pub answer : IsEnding commands words (contents_of made) status
  pub output : OutputGets (IsOutput commands words (contents_of made)) words status out out_now
  -- Complete: the ending that stands is given, but for want of memory, what exceeds exact work, or a put that failed.
  pub complete : (ending : Status) → Ends commands words (contents_of made) ending
      → Gives commands words (contents_of made) ending status out out_now
  -- A file that wasn't read failed in this run; the message names the cause.
  pub read : (which : Which) → status ≡ Read (Failed which) → HasFailed words made which shelf shelf_now
  pub message : IsTold m words (contents_of made) status err err_now
