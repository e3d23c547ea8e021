-- What the stream of messages gets.
use Rattle.top_status.specs.declared.limits.TheConstants.{MOST_MESSAGE_BYTES}
use Rattle.std.specs.Prelude.{◌≡◌, ◌≤◌, ◌⊎◌, ℕ, IsTrue, List, Option, take}
use Rattle.std.specs.Io.KnownBytes.{Appends}
use Rattle.base_files.specs.Faults.{Rose}
use Rattle.base_files.specs.Puts.{AddsPieces, as_pieces}
use Rattle.top_status.specs.Status.{has_output}
use Rattle.top_status.specs.declared.status.Status.{Status}

-- the stream of messages gets some first bytes of a message, all of it where there is room for the longest message and no put failed,
-- and none where the run has an output
pub record GetsMessage (status : Status) (message : List ℕ) (held now : Option (List ℕ)) (faults faults_now spare : ℕ) : Type 0 where
  pub silent : IsTrue (has_output status) → now ≡ held
  pub part : (IsTrue (has_output status) → ⊥) → (n : ℕ) × Appends held now (take n message)
  pub whole : (IsTrue (has_output status) → ⊥) → MOST_MESSAGE_BYTES ≤ spare → (Rose faults faults_now → ⊥) → Appends held now message

-- a message is one piece, or none of it was taken whole
abbrev pub IsInOnePiece : List ℕ → (taken now : Option (List (List ℕ))) → Type 0
IsInOnePiece message taken now = (now ≡ taken) ⊎ AddsPieces taken now (as_pieces message)
