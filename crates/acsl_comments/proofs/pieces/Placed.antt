-- The tokens among pieces, each with its bytes and its place.
use Rattle.std.specs.Prelude.{slice_range}
use Rattle.std.proofs.Common.{◌≡◌, ◌+◌, ◌-◌, ℕ, List, [], ◌∷◌, ◌++◌, length, map, refl, ap, ap₂, sym, ◌∙◌, arith}
use Rattle.std.proofs.lemmas.List.{append_assoc, length-append, map-append, take_at, drop_at}
use Rattle.lang_tokens.specs.declared.lexicon.Lexicon.{Lexicon}
use Rattle.lang_tokens.specs.declared.token.Kind.{Kind}
use Rattle.lang_tokens.specs.declared.token.Token.{Token}
use Rattle.lang_tokens.specs.Reading.{Piece, blank, line_comment, block_comment, token, piece_bytes, spelling, AllFit, piece_tokens}
use Rattle.lang_tokens.specs.Reading.{tokens_from, behind, behind_all}
use Rattle.lang_tokens.specs.declared.before.Before.{Before}

-- a token with its bytes at its place
pub record Placed : Type 0 where
  -- what the token is
  pub kind : Kind
  -- the token's bytes
  pub bytes : List ℕ
  -- the token's place
  pub at : ℕ

-- the same at another place
abbrev pub place_at : (ℕ → ℕ) → Placed → Placed
place_at to placed = record { kind = placed.kind; bytes = placed.bytes; at = to placed.at }

-- the token of a piece that starts here
abbrev pub piece_placed : ℕ → Piece → List Placed
piece_placed at (token kind bytes) = record { kind = kind; bytes = bytes; at = at } ∷ []
piece_placed at (blank b) = []
piece_placed at (line_comment body) = []
piece_placed at (block_comment body) = []

-- the tokens of pieces of which the first starts here
abbrev pub placed_from : ℕ → List Piece → List Placed
placed_from at [] = []
placed_from at (piece ∷ pieces) = piece_placed at piece ++ placed_from (at + length (piece_bytes piece)) pieces

-- the token as the lexer sees it
abbrev pub lexed : Placed → Token
lexed placed = record { kind = placed.kind; at = placed.at; len = length placed.bytes }

-- a token with its bytes in a text
abbrev pub placed_of : List ℕ → Token → Placed
placed_of text t = record { kind = t.kind; bytes = slice_range text t.at (t.at + t.len); at = t.at }

-- the same of one piece
piece_lexed : (at : ℕ) (piece : Piece) → piece_tokens at piece ≡ map lexed (piece_placed at piece)
piece_lexed at (token kind bytes) = refl
piece_lexed at (blank b) = refl
piece_lexed at (line_comment body) = refl
piece_lexed at (block_comment body) = refl

-- they are the tokens that the text reads as
pub tokens_lexed : (at : ℕ) (pieces : List Piece) → tokens_from at pieces ≡ map lexed (placed_from at pieces)
tokens_lexed at [] = refl
tokens_lexed at (piece ∷ pieces) =
    let next = at + length (piece_bytes piece) in
    ap₂ (λ (xs ys : List Token). xs ++ ys) (piece_lexed at piece) (tokens_lexed next pieces)
    ∙ sym (map-append lexed (piece_placed at piece) (placed_from next pieces))

-- the bytes between what stands before and what stands after
pub range_is : (front bytes after : List ℕ) (at end : ℕ) → length front ≡ at → at + length bytes ≡ end
    → slice_range (front ++ (bytes ++ after)) at end ≡ bytes
range_is front bytes after at end e f =
    let len : end - at ≡ length bytes = omega arith in
    rw (drop_at front (bytes ++ after) at e, len) (take_at bytes after (length bytes) refl)

-- the bytes of one piece
piece_found : (text front after : List ℕ) (at : ℕ) (piece : Piece) → front ++ (piece_bytes piece ++ after) ≡ text → length front ≡ at
    → map (placed_of text) (map lexed (piece_placed at piece)) ≡ piece_placed at piece
piece_found text front after at (token kind bytes) e f =
    rw (← e) (ap (λ (bs : List ℕ). let p : Placed = record { kind = kind; bytes = bs; at = at } in p ∷ [])
    (range_is front bytes after at (at + length bytes) f refl))
piece_found text front after at (blank b) e f = refl
piece_found text front after at (line_comment body) e f = refl
piece_found text front after at (block_comment body) e f = refl

-- and their bytes are those that stand there
pub tokens_found : (text front : List ℕ) (at : ℕ) (pieces : List Piece) → front ++ spelling pieces ≡ text → length front ≡ at
    → map (placed_of text) (map lexed (placed_from at pieces)) ≡ placed_from at pieces
tokens_found text front at [] e f = refl
tokens_found text front at (piece ∷ pieces) e f =
    let bytes = piece_bytes piece in
    let next = at + length bytes in
    let here = piece_placed at piece in
    let there = placed_from next pieces in
    let more = tokens_found text (front ++ bytes) next pieces (append_assoc front bytes (spelling pieces) ∙ e)
    (omega (arith, length-append front bytes)) in
    ap (map (placed_of text)) (map-append lexed here there) ∙ (map-append (placed_of text) (map lexed here) (map lexed there)
    ∙ ap₂ (λ (xs ys : List Placed). xs ++ ys) (piece_found text front (spelling pieces) at piece e f) more)

-- no tokens of a piece and of what follows
piece_told : (at : ℕ) (piece : Piece) (more : List Token) → piece_tokens at piece ++ more ≡ [] → (piece_placed at piece ≡ []) × (more ≡ [])
piece_told at (token kind bytes) more e = cc
piece_told at (blank b) more e = (refl, e)
piece_told at (line_comment body) more e = (refl, e)
piece_told at (block_comment body) more e = (refl, e)

-- pieces without tokens have none
pub none_placed : (at : ℕ) (pieces : List Piece) → tokens_from at pieces ≡ [] → placed_from at pieces ≡ []
none_placed at [] e = refl
none_placed at (piece ∷ pieces) e =
    let next = at + length (piece_bytes piece) in
    let parts = piece_told at piece (tokens_from next pieces) e in
    ap₂ (λ (xs ys : List Placed). xs ++ ys) parts.0 (none_placed next pieces parts.1)

-- the tokens of pieces and of those behind them
pub placed-append : (at : ℕ) (pieces more : List Piece) → placed_from at (pieces ++ more)
    ≡ placed_from at pieces ++ placed_from (at + length (spelling pieces)) more
placed-append at [] more = let none : at + 0 ≡ at = omega arith in rw none refl
placed-append at (piece ∷ pieces) more =
    let bytes = piece_bytes piece in
    let next : at + length bytes + length (spelling pieces) ≡ at + length (bytes ++ spelling pieces) =
    omega (arith, length-append bytes (spelling pieces)) in
    let rest = placed-append (at + length bytes) pieces more in
    ap (λ (ps : List Placed). piece_placed at piece ++ ps) (rw next at rest)
    ∙ sym (append_assoc (piece_placed at piece) (placed_from (at + length bytes) pieces)
    (placed_from (at + length (bytes ++ spelling pieces)) more))

-- the bytes of pieces and of those behind them
pub spelling-append : (pieces more : List Piece) → spelling (pieces ++ more) ≡ spelling pieces ++ spelling more
spelling-append [] more = refl
spelling-append (piece ∷ pieces) more = ap (λ (bs : List ℕ). piece_bytes piece ++ bs) (spelling-append pieces more)
    ∙ sym (append_assoc (piece_bytes piece) (spelling pieces) (spelling more))

-- pieces fit before others that fit
pub fit-append : (lexicon : Lexicon) (before : Before) (pieces more : List Piece) (rest : List ℕ)
    → AllFit lexicon before pieces (spelling more ++ rest) → AllFit lexicon (behind_all before pieces) more rest
    → AllFit lexicon before (pieces ++ more) rest
fit-append lexicon before [] more rest fit then = then
fit-append lexicon before (piece ∷ pieces) more rest fit then =
    let same : spelling (pieces ++ more) ++ rest ≡ spelling pieces ++ (spelling more ++ rest) =
    ap (λ (bs : List ℕ). bs ++ rest) (spelling-append pieces more) ∙ append_assoc (spelling pieces) (spelling more) rest in
    (rw same fit.0, fit-append lexicon (behind before piece) pieces more rest fit.1 then)
