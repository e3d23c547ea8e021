-- The tokens of a reading stand in the text, one behind the other.
use Rattle.std.proofs.Common.{◌≡◌, ◌≤◌, ◌+◌, ◌-◌, ℕ, List, [], ◌∷◌, ◌++◌, length, refl, sym, ap, subst, ◌∙◌, arith}
use Rattle.std.specs.List.{slice_range}
use Rattle.std.proofs.lemmas.List.{take_at, drop_at, append_assoc, append-nil, length-append}
use Rattle.lang_tokens.specs.declared.lexicon.Lexicon.{Lexicon}
use Rattle.lang_tokens.specs.declared.token.Kind.{Kind}
use Rattle.lang_tokens.specs.declared.token.Token.{Token}
use Rattle.lang_tokens.specs.Lexemes.{IsToken}
use Rattle.lang_tokens.specs.declared.before.Before.{Before}
use Rattle.lang_tokens.specs.declared.before.Before.TheVariants.{Blanks}
use Rattle.lang_tokens.specs.Reading.{Piece, token, piece_bytes, spelling, AllFit, IsWholeToken, tokens_from, Reads, behind, behind_token}
use Rattle.lang_tokens.specs.TokenLists.{IsTokenAfter, AreTokensAfter, AreTokensOf}
use Rattle.lang_tokens.proofs.reading.Growth.{lexeme_some}

-- the bytes between what stands before and what stands after
range_is : (front bytes after : List ℕ) (at end : ℕ) → length front ≡ at → at + length bytes ≡ end
    → slice_range (front ++ (bytes ++ after)) at end ≡ bytes
range_is front bytes after at end e f =
    let len : end - at ≡ length bytes = omega arith in
    rw (drop_at front (bytes ++ after) at e, len) (take_at bytes after (length bytes) refl)

token_placed : (lexicon : Lexicon) (text front bytes after : List ℕ) (at low : ℕ) (kind : Kind) → front ++ (bytes ++ after) ≡ text
    → length front ≡ at → low ≤ at → IsWholeToken lexicon kind bytes after
    → IsTokenAfter text low (record { kind = kind; at = at; len = length bytes })
token_placed lexicon text front bytes after at low kind e f low_is t = record {
  after = low_is;
  some = lexeme_some lexicon bytes t.longest.lexeme;
  within = omega (arith, ap length e, length-append front (bytes ++ after), length-append bytes after);
  is_token = rw (← e) (subst (IsToken kind) (sym (range_is front bytes after at (at + length bytes) f refl)) t.is_token);
}

placed_from : (lexicon : Lexicon) (text front : List ℕ) (before : Before) (pieces : List Piece) (at low : ℕ)
    → front ++ spelling pieces ≡ text
    → length front ≡ at → low ≤ at → AllFit lexicon before pieces [] → AreTokensAfter text low (tokens_from at pieces)
placed_from lexicon text front before [] at low e f low_is fit = tt
placed_from lexicon text front before (token kind bytes ∷ pieces) at low e f low_is fit = (
  token_placed lexicon text front bytes (spelling pieces) at low kind e f low_is
      (subst (IsWholeToken lexicon kind bytes) (append-nil (spelling pieces)) fit.0.1),
  placed_from lexicon text (front ++ bytes) (behind_token kind) pieces (at + length bytes) (at + length bytes) (append_assoc front bytes
      (spelling pieces) ∙ e)
      (omega (arith, length-append front bytes)) (omega arith) fit.1,
)
placed_from lexicon text front before (piece ∷ pieces) at low e f low_is fit =
    placed_from lexicon text (front ++ piece_bytes piece) (behind before piece) pieces (at + length (piece_bytes piece)) low
    (append_assoc front (piece_bytes piece) (spelling pieces) ∙ e) (omega (arith, length-append front (piece_bytes piece)))
    (omega arith) fit.1

-- the tokens of a reading are tokens of the text in order, with its end last
pub placed_tokens : (lexicon : Lexicon) (text : List ℕ) (tokens : List Token) → Reads lexicon text tokens → AreTokensOf text tokens
placed_tokens lexicon text tokens reads = record {
  front = reads.front;
  ended = reads.told;
  placed = subst (AreTokensAfter text 0) reads.whole.told (placed_from lexicon text [] Blanks reads.whole.pieces 0 0
      (sym (append-nil (spelling reads.whole.pieces)) ∙ reads.whole.spelled) refl (omega arith) reads.whole.fit);
}
