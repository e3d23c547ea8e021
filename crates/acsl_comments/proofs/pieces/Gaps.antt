-- What stands in a gap: blanks and comments, and no token.
use Rattle.std.proofs.Common.{◌≡◌, ◌-◌, ◌⊎◌, inl, inr, ℕ, true, false, List, [], ◌∷◌, ◌++◌, take, drop, refl, ap, ◌∙◌, subst}
use Rattle.std.proofs.lemmas.List.{append_assoc, take-append-drop}
use Rattle.std.proofs.lemmas.Bool.{or_left, and_parts}
use Rattle.std.specs.List.{AllByRecursion, list_all}
use Rattle.lang_tokens.specs.Bytes.{is_blank}
use Rattle.lang_tokens.specs.declared.before.Before.{Before}
use Rattle.lang_tokens.specs.Reading.{Piece, blank, line_comment, block_comment, token, spelling, is_outside}
use Rattle.lang_tokens.specs.Reading.{behind, behind_all}
use Rattle.acsl_comments.specs.Places.{IsGap, is_gap_piece}
use Rattle.acsl_comments.specs.Texts.{with_comments}
use Rattle.acsl_comments.specs.declared.comment.Comment.{Comment}
use Rattle.acsl_comments.proofs.pieces.Plain.{starts_gap, heads, blank_outside, comment_outside}
use Rattle.acsl_comments.proofs.pieces.Rests.{Meets}

-- what follows doesn't change the first byte
heads_more : (xs ys : List ℕ) → heads starts_gap xs ≡ true → heads starts_gap (xs ++ ys) ≡ true
heads_more [] ys h = cc
heads_more (x ∷ xs) ys h = h

-- the same of its pieces
gap_pieces_start : (pieces : List Piece) → list_all is_gap_piece pieces ≡ true
    → (spelling pieces ≡ []) ⊎ (heads starts_gap (spelling pieces) ≡ true)
gap_pieces_start [] plain = inl refl
gap_pieces_start (blank b ∷ pieces) plain = inr (or_left (is_blank b) _ (and_parts (is_blank b) (list_all is_gap_piece pieces) plain).0)
gap_pieces_start (line_comment body ∷ pieces) plain = inr refl
gap_pieces_start (block_comment body ∷ pieces) plain = inr refl
gap_pieces_start (token kind bytes ∷ pieces) plain = cc

-- a gap is empty, or starts as blanks and comments do
gap_starts : (bytes : List ℕ) → IsGap bytes → (bytes ≡ []) ⊎ (heads starts_gap bytes ≡ true)
gap_starts bytes gap = subst (λ (bs : List ℕ). (bs ≡ []) ⊎ (heads starts_gap bs ≡ true)) gap.spelled (gap_pieces_start gap.pieces gap.plain)

-- no directive goes on behind a piece of a gap, where none did before it
piece_outside : (before : Before) (piece : Piece) → is_outside before ≡ true → is_gap_piece piece ≡ true
    → is_outside (behind before piece) ≡ true
piece_outside before (blank b) out plain = blank_outside before b out plain
piece_outside before (line_comment body) out plain = comment_outside before out
piece_outside before (block_comment body) out plain = comment_outside before out
piece_outside before (token kind bytes) out plain = let none : false ≡ true = plain in cc

-- nor behind a gap
pub gap_outside : (before : Before) (pieces : List Piece) → is_outside before ≡ true → list_all is_gap_piece pieces ≡ true
    → is_outside (behind_all before pieces) ≡ true
gap_outside before [] out plain = out
gap_outside before (piece ∷ pieces) out plain =
    let both = and_parts (is_gap_piece piece) (list_all is_gap_piece pieces) plain in
    gap_outside (behind before piece) pieces (piece_outside before piece out both.0) both.1

-- what stands before both rests
meets_behind : (n : ℕ) (rest now : List ℕ) → Meets (drop n rest) now → Meets rest (take n rest ++ now)
meets_behind n rest now meets = record {
  front = take n rest ++ meets.front;
  before = meets.before;
  after = meets.after;
  was = append_assoc (take n rest) meets.front meets.before ∙ (ap (λ (bs : List ℕ). take n rest ++ bs) meets.was ∙ take-append-drop n rest);
  is = append_assoc (take n rest) meets.front meets.after ∙ ap (λ (bs : List ℕ). take n rest ++ bs) meets.is;
  on = meets.on;
}

-- a gap before the second rest
meets_gap : (rest bytes now : List ℕ) → (bytes ≡ []) ⊎ (heads starts_gap bytes ≡ true) → Meets rest now → Meets rest (bytes ++ now)
meets_gap rest bytes now (inl e) meets = rw e meets
meets_gap rest bytes now (inr h) meets = record {
  front = [];
  before = rest;
  after = bytes ++ now;
  was = refl;
  is = refl;
  on =
      inr (heads_more bytes now h);
}

-- what is written begins as the text does, and goes on alike or with a gap
pub meets_comments : (at : ℕ) (rest : List ℕ) (comments : List Comment) → AllByRecursion (λ c. IsGap c.bytes) comments
    → Meets rest (with_comments at rest comments)
meets_comments at rest [] gaps = record { front = []; before = rest; after = rest; was = refl; is = refl; on = inl refl }
meets_comments at rest (c ∷ cs) gaps = meets_behind (c.place - at) rest _
    (meets_gap (drop (c.place - at) rest) c.bytes _ (gap_starts c.bytes gaps.0)
    (meets_comments c.place (drop (c.place - at) rest) cs gaps.1))
