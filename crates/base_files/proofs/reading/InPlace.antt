-- A read in place, at the end of what was read before.
use Rattle.std.proofs.Common.{◌≡◌, ◌≤◌, ◌<◌, ◌+◌, ℕ, List, ◌++◌, length, take, drop, ap, ◌∙◌, arith, length-drop, length-take-le}
use Rattle.std.proofs.Math.Seq.{take-add, take-append_seam}
use Rattle.std.proofs.lemmas.List.{take_all}
use Rattle.std.specs.Prelude.{Option}
use Rattle.std.specs.Io.KnownBytes.{Consumes, IsAtEnd}
use Rattle.base_files.specs.Reads.{MovesPiece}

-- a list that was made longer begins as it was
pub front_of_longer : (bytes longer tail : List ℕ) (start long : ℕ) → start ≡ length bytes → start ≤ long → longer ≡ take long bytes ++ tail
    → take start longer ≡ bytes
front_of_longer bytes longer tail start long begins fits is_longer =
    ap (take start) (is_longer ∙ ap (λ l. l ++ tail) (take_all long bytes (omega arith)))
    ∙ ap (λ k. take k (bytes ++ tail)) begins ∙ take-append_seam bytes tail

-- what a read put behind the bytes is the piece, once the list is cut after it
pub moves_piece : (before now : Option (List ℕ)) (bytes filled cut : List ℕ) (start count room : ℕ) → start ≡ length bytes
    → take start filled ≡ bytes → length filled ≡ start + room → cut ≡ take (start + count) filled → start + count ≤ length filled
    → Consumes before now (take count (drop start filled)) → (count ≡ 0 → start < length filled → IsAtEnd now)
    → MovesPiece before now bytes cut room
moves_piece before now bytes filled cut start count room begins front long is_cut within consumed ends =
    let rest = drop start filled in
    let size : length (take count rest) ≡ count = length-take-le count rest (omega (arith, length-drop start filled)) in
    record {
      piece = take count rest;
      appended = is_cut ∙ take-add start count filled ∙ ap (λ l. l ++ take count rest) front;
      consumed = consumed;
      within = omega arith;
      ends = λ empty some. ends (omega arith) (omega arith);
    }
