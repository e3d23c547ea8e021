-- What a stream gets that is told of long work.
use Rattle.top_status.specs.declared.limits.TheConstants.{MOST_MESSAGE_BYTES}
use Rattle.std.specs.Prelude.{◌≡◌, ◌≤◌, ℕ, Bool, false, List, take}
use Rattle.std.specs.Io.KnownBytes.{Appends}
use Rattle.base_files.specs.Faults.{Rose}
use Rattle.ask_words.specs.Request.{wants_progress}
use Rattle.top_run.specs.Messages.{IsInOnePiece}
use Rattle.top_run.specs.Seen.{SinkSeen}

-- the stream gets some first bytes of a line, all of it where there is room for the longest message and no put failed; in one piece, if
-- it is taken
pub record GetsLine (line : List ℕ) (stream stream_now : SinkSeen) : Type 0 where
  pub part : (n : ℕ) × Appends stream.held stream_now.held (take n line)
  pub whole : MOST_MESSAGE_BYTES ≤ stream.spare → (Rose stream.faults stream_now.faults → ⊥) → Appends stream.held stream_now.held line
  pub piece : IsInOnePiece line stream.taken stream_now.taken

-- a watch is told nothing where the words don't ask for it
abbrev pub IsUntold : {W : Type 0} → (words : List (List ℕ)) → (watch watch_now : W) → Type 0
IsUntold words watch watch_now = wants_progress words ≡ false → watch_now ≡ watch
