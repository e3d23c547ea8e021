-- What a read into the end of a list of bytes does.
use Rattle.std.specs.Prelude.{◌≡◌, ◌++◌, ◌≤◌, ◌<◌, ℕ, List, Option, length}
use Rattle.std.specs.Io.KnownBytes.{Consumes, IsAtEnd}

-- a piece of at most `room` bytes went from the reader to the end of the bytes, an empty one only where nothing is left
pub record MovesPiece (left_before left_now : Option (List ℕ)) (bytes_before bytes_now : List ℕ) (room : ℕ) : Type 0 where
  pub piece : List ℕ
  pub appended : bytes_now ≡ bytes_before ++ piece
  pub consumed : Consumes left_before left_now piece
  pub within : length piece ≤ room
  pub ends : length piece ≡ 0 → 0 < room → IsAtEnd left_now
