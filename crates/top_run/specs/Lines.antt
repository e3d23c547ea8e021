-- In which pieces bytes are put.
use Rattle.std.specs.Prelude.{◌==◌, ℕ, List, [], ◌∷◌, if◌then◌else◌}
use Rattle.base_files.specs.Puts.{as_pieces}
use Rattle.ask_files.specs.Files.{Request}
use Rattle.ask_words.specs.declared.request.Purpose.TheVariants.{Certificate as AsCertificate}
use Rattle.ask_words.specs.declared.request.Request.TheVariants.{Analyse, Upgrade}
use Rattle.top_run.specs.declared.output.Pieces.{Pieces}
use Rattle.top_run.specs.declared.output.Pieces.TheVariants.{Lines, Whole}

-- a byte before the first line
abbrev pub onto_first : ℕ → List (List ℕ) → List (List ℕ)
onto_first byte [] = (byte ∷ []) ∷ []
onto_first byte (line ∷ lines) = (byte ∷ line) ∷ lines

-- a text as its lines, each with its line feed
abbrev pub lines_of : List ℕ → List (List ℕ)
lines_of [] = []
lines_of (byte ∷ rest) = if byte == 10 then (byte ∷ []) ∷ lines_of rest else onto_first byte (lines_of rest)

-- bytes as their lines, or as one piece
abbrev pub cut_by : Pieces → List ℕ → List (List ℕ)
cut_by Lines bytes = lines_of bytes
cut_by Whole bytes = as_pieces bytes

-- what a request puts: a certificate in one piece, all else line by line
abbrev pub pieces_of : Request → Pieces
pieces_of (Analyse AsCertificate analysis format) = Whole
pieces_of (Upgrade certificate) = Whole
pieces_of _ = Lines
