-- Pieces that were taken one after another: what a program over a sink may cite.
use Rattle.std.proofs.Common.{◌≡◌, ◌<◌, ◌++◌, ℕ, List, [], ◌∷◌, length, refl, sym, ap, ◌∙◌, append_assoc, append-nil, arith}
use Rattle.std.specs.Prelude.{Option, None, Some}
use Rattle.base_files.specs.Puts.{AddsPieces, as_pieces}

-- a piece that isn't empty counts
pub as_pieces-some : (piece : List ℕ) → 0 < length piece → as_pieces piece ≡ piece ∷ []
as_pieces-some [] some = absurd (omega arith)
as_pieces-some (byte ∷ rest) some = refl

-- no piece is added where nothing changes
pub adds_pieces-none : (pieces : Option (List (List ℕ))) → AddsPieces pieces pieces []
adds_pieces-none None = tt
adds_pieces-none (Some pieces) = sym (append-nil pieces)

-- pieces, and then further pieces
pub adds_pieces-trans : (before now next : Option (List (List ℕ))) (first second : List (List ℕ))
    → AddsPieces before now first → AddsPieces now next second → AddsPieces before next (first ++ second)
adds_pieces-trans None now next first second added further = tt
adds_pieces-trans (Some old) None next first second added further = absurd added
adds_pieces-trans (Some old) (Some middle) None first second added further = absurd further
adds_pieces-trans (Some old) (Some middle) (Some new) first second added further =
    further ∙ ap (λ pieces. pieces ++ second) added ∙ append_assoc old first second
