-- Texts of pieces, each of which is one in UTF-8.
use Rattle.std.proofs.Common.{◌≡◌, ◌<◌, ℕ, List, All, Bor, get_or, length, subst, sym}
use Rattle.std.proofs.lemmas.List.{get_or-map, length-map}
use Rattle.std.proofs.lemmas.List.Elements.{All-get_or}
use Rattle.std.specs.Str.{IsUtf8}
use Rattle.ask_files.specs.Files.{texts_of}

-- where the texts of pieces are all UTF-8, that of each piece is
pub text_at : (pieces : List (Bor (List ℕ))) (i : ℕ) (d : Bor (List ℕ)) → i < length pieces → All IsUtf8 (texts_of pieces)
    → IsUtf8 ((get_or pieces i d).now)
text_at pieces i d within all =
    let long : length (texts_of pieces) ≡ length pieces = length-map pieces (λ text. text.now) in
    subst IsUtf8 (get_or-map (λ text. text.now) pieces i d d.now within)
    (All-get_or IsUtf8 (texts_of pieces) i d.now (subst (λ n. i < n) (sym long) within) all)
