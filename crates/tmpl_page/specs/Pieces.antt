-- A text that is cut into pieces.
use Rattle.std.specs.Prelude.{ℕ, List, [], ◌∷◌, drop, take}

-- the pieces of these lengths, one behind the other; where the text ends, a piece is cut short
abbrev pub pieces_of : List ℕ → List ℕ → List (List ℕ)
pieces_of [] text = []
pieces_of (length ∷ lengths) text = take length text ∷ pieces_of lengths (drop length text)
