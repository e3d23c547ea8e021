-- What the output gets.
use Rattle.std.specs.Prelude.{◌≡◌, ◌<◌, ℕ, IsTrue, List, Some, length, take}
use Rattle.std.specs.Io.KnownBytes.{Appends}
use Rattle.ask_files.specs.Files.{Request}
use Rattle.ask_words.specs.Request.{request_of}
use Rattle.base_files.specs.Faults.{Rose}
use Rattle.base_files.specs.Puts.{AddsPieces}
use Rattle.top_run.specs.Lines.{cut_by, pieces_of}
use Rattle.top_run.specs.Seen.{SinkSeen}
use Rattle.top_status.specs.Status.{has_output}
use Rattle.top_status.specs.declared.status.Status.{Status}
use Rattle.top_status.specs.declared.status.Status.TheVariants.{Memory, Write}

-- the output took all of these bytes, in the pieces of the request of the words, and no put failed
pub record IsPut (words : List (List ℕ)) (bytes : List ℕ) (out out_now : SinkSeen) : Type 0 where
  pub appended : Appends out.held out_now.held bytes
  pub pieces : (request : Request) → request_of words ≡ Some request → AddsPieces out.taken out_now.taken (cut_by (pieces_of request) bytes)
  pub calm : out_now.faults ≡ out.faults

-- the output gets all of it where the run is done or a check is open; a part of what is written at some ending where a put failed in this
-- run, or where it is longer than what the output takes with no memory; and is as it was where the run is refused before
pub data OutputGets (IsIt : Status → List ℕ → Type 0) (words : List (List ℕ)) (status : Status) (out out_now : SinkSeen) : Type 0 where
  gets_whole : (bytes : List ℕ) → IsTrue (has_output status) → IsIt status bytes → IsPut words bytes out out_now
      → OutputGets IsIt words status out out_now
  gets_part : (ending : Status) (bytes : List ℕ) (n : ℕ) → status ≡ Write → IsIt ending bytes → Appends out.held out_now.held (take n bytes)
      → Rose out.faults out_now.faults → OutputGets IsIt words status out out_now
  gets_fitting : (ending : Status) (bytes : List ℕ) (n : ℕ) → status ≡ Memory → IsIt ending bytes
      → Appends out.held out_now.held (take n bytes) → out.spare < length bytes → out_now.faults ≡ out.faults
      → OutputGets IsIt words status out out_now
  gets_nothing : (IsTrue (has_output status) → ⊥) → (status ≡ Write → ⊥) → out_now ≡ out → OutputGets IsIt words status out out_now
