-- Where tokens begin and end among the pieces of a text.
use Rattle.std.proofs.Common.{◌≡◌, ◌≤◌, ◌<◌, ◌+◌, ◌⊎◌, inl, inr, ⊎_elim, ℕ, Bool, true, false, List, [], ◌∷◌, ◌++◌, length, ap, sym}
use Rattle.std.proofs.Common.{subst, arith, Contains}
use Rattle.std.proofs.lemmas.Bool.{eqb-true}
use Rattle.std.proofs.lemmas.List.Elements.{Contains-append_cases, Contains-push_cases, Contains-push, Contains-append_left}
use Rattle.std.proofs.lemmas.List.Elements.{Contains-append_right}
use Rattle.lang_tokens.specs.declared.lexicon.Lexicon.TheVariants.{C}
use Rattle.lang_tokens.specs.declared.token.Token.{Token}
use Rattle.lang_tokens.specs.Lexemes.{IsLexeme}
use Rattle.lang_tokens.specs.Reading.{Piece, blank, line_comment, block_comment, token, piece_bytes, spelling, AllFit, ends_line}
use Rattle.lang_tokens.specs.Reading.{piece_tokens, tokens_from, end_at}
use Rattle.lang_tokens.specs.declared.before.Before.{Before}
use Rattle.lang_tokens.specs.declared.sign.Sign.TheVariants.{Slash}
use Rattle.lang_tokens.specs.declared.token.Kind.TheVariants as kind
use Rattle.source_constants.specs.Directives.{is_code}
use Rattle.acsl_comments.specs.Places.{IsEdge}
use Rattle.acsl_comments.proofs.pieces.Plain.{no_feed_in, lexeme_some, piece_some}

-- the piece is a token that stands in no directive
abbrev pub is_token : Piece → Bool
is_token (token kind bytes) = is_code kind
is_token (blank b) = false
is_token (line_comment body) = false
is_token (block_comment body) = false

-- a piece that starts here is a token of no directive that begins or ends at the place
abbrev pub IsPieceEdge : ℕ → Piece → ℕ → Type 0
IsPieceEdge at (token kind bytes) place = (is_code kind ≡ true) × ((place ≡ at) ⊎ (place ≡ at + length bytes))
IsPieceEdge at (blank b) place = ⊥
IsPieceEdge at (line_comment body) place = ⊥
IsPieceEdge at (block_comment body) place = ⊥

-- one of the pieces, of which the first starts here, is such a token
abbrev pub IsEdgeIn : ℕ → List Piece → ℕ → Type 0
IsEdgeIn at [] place = ⊥
IsEdgeIn at (piece ∷ pieces) place = IsPieceEdge at piece place ⊎ IsEdgeIn (at + length (piece_bytes piece)) pieces place

-- a comment may stand at the place: a token has ended where the pieces start, or one of theirs begins or ends there
abbrev pub MayHold : Bool → ℕ → List Piece → ℕ → Type 0
MayHold ended at pieces place = ((ended ≡ true) × (place ≡ at)) ⊎ IsEdgeIn at pieces place

-- a token begins and ends at its place or behind it
piece_edge_behind : (at : ℕ) (piece : Piece) (place : ℕ) → IsPieceEdge at piece place → at ≤ place
piece_edge_behind at (token kind bytes) place (code, inl e) = omega arith
piece_edge_behind at (token kind bytes) place (code, inr e) = omega arith
piece_edge_behind at (blank b) place e = absurd e
piece_edge_behind at (line_comment body) place e = absurd e
piece_edge_behind at (block_comment body) place e = absurd e

-- tokens among pieces begin and end behind where the first piece starts
pub edge_behind : (at : ℕ) (pieces : List Piece) (place : ℕ) → IsEdgeIn at pieces place → at ≤ place
edge_behind at [] place e = absurd e
edge_behind at (piece ∷ pieces) place (inl e) = piece_edge_behind at piece place e
edge_behind at (piece ∷ pieces) place (inr e) = omega (arith, edge_behind (at + length (piece_bytes piece)) pieces place e)

-- so such a place is not before the pieces
pub held_behind : (ended : Bool) (at : ℕ) (pieces : List Piece) (place : ℕ) → MayHold ended at pieces place → at ≤ place
held_behind ended at pieces place (inl h) = omega (arith, h.1)
held_behind ended at pieces place (inr e) = edge_behind at pieces place e

-- a place behind the start of a piece, where it begins or ends, is its end
piece_edge_later : (at : ℕ) (piece : Piece) (pieces : List Piece) (place : ℕ) → IsPieceEdge at piece place → at < place
    → MayHold (is_token piece) (at + length (piece_bytes piece)) pieces place
piece_edge_later at (token kind bytes) pieces place (code, inl e) h = absurd (omega arith)
piece_edge_later at (token kind bytes) pieces place (code, inr e) h = inl (code, e)
piece_edge_later at (blank b) pieces place e h = absurd e
piece_edge_later at (line_comment body) pieces place e h = absurd e
piece_edge_later at (block_comment body) pieces place e h = absurd e

-- a place behind the start of a piece is none inside it
pub held_later : (ended : Bool) (at : ℕ) (piece : Piece) (pieces : List Piece) (place : ℕ) → MayHold ended at (piece ∷ pieces) place
    → at < place → MayHold (is_token piece) (at + length (piece_bytes piece)) pieces place
held_later ended at piece pieces place (inl h) later = absurd (omega (arith, h.1))
held_later ended at piece pieces place (inr (inl e)) later = piece_edge_later at piece pieces place e later
held_later ended at piece pieces place (inr (inr e)) later = inr e

-- a token is no line feed
token_no_end : (bytes more : List ℕ) → IsLexeme C bytes → ends_line ((bytes ++ more) ++ []) ≡ true → ⊥
token_no_end [] more lexeme h = absurd (omega (arith, lexeme_some [] lexeme))
token_no_end (b ∷ bytes) more lexeme h = let feed : b ≡ 10 = eqb-true b 10 h in no_feed_in [] bytes (rw feed at lexeme)

-- so no first piece is a token where a line ends
piece_no_edge : (before : Before) (at : ℕ) (piece : Piece) (pieces : List Piece) → AllFit C before (piece ∷ pieces) []
    → ends_line (spelling (piece ∷ pieces) ++ []) ≡ true → IsPieceEdge at piece at → ⊥
piece_no_edge before at (token k bytes) pieces fit h e = token_no_end bytes (spelling pieces) fit.0.1.longest.lexeme h
piece_no_edge before at (blank b) pieces fit h e = e
piece_no_edge before at (line_comment body) pieces fit h e = e
piece_no_edge before at (block_comment body) pieces fit h e = e

-- no token begins where a line ends
pub no_edge_at_line_end : (before : Before) (at : ℕ) (pieces : List Piece) → AllFit C before pieces []
    → ends_line (spelling pieces ++ []) ≡ true → MayHold false at pieces at → ⊥
no_edge_at_line_end before at pieces fit h (inl held) = let no : false ≡ true = held.0 in cc
no_edge_at_line_end before at [] fit h (inr e) = e
no_edge_at_line_end before at (piece ∷ pieces) fit h (inr (inl e)) = piece_no_edge before at piece pieces fit h e
no_edge_at_line_end before at (piece ∷ pieces) fit h (inr (inr e)) =
    omega (arith, edge_behind (at + length (piece_bytes piece)) pieces at e, piece_some before piece (spelling pieces ++ []) fit.0)

-- the piece that starts here is no `/` that ends at the place
abbrev pub IsPieceClear : ℕ → Piece → ℕ → Type 0
IsPieceClear at (token k bytes) place = k ≡ kind.Sign Slash → place ≡ at + length bytes → ⊥
IsPieceClear at (blank b) place = Unit {0}
IsPieceClear at (line_comment body) place = Unit {0}
IsPieceClear at (block_comment body) place = Unit {0}

-- none of the pieces, of which the first starts here, is such a `/`
abbrev pub IsClearIn : ℕ → List Piece → ℕ → Type 0
IsClearIn at [] place = Unit {0}
IsClearIn at (piece ∷ pieces) place = IsPieceClear at piece place × IsClearIn (at + length (piece_bytes piece)) pieces place

-- a place where no `/` of the tokens of a piece ends
piece_clear : (at : ℕ) (piece : Piece) (place : ℕ) → ((t : Token) → Contains (piece_tokens at piece) t → t.kind ≡ kind.Sign Slash
    → t.at + t.len ≡ place → ⊥) → IsPieceClear at piece place
piece_clear at (token k bytes) place none =
    let t : Token = record { kind = k; at = at; len = length bytes } in
    λ slash e. none t (Contains-push [] t) slash (sym e)
piece_clear at (blank b) place none = tt
piece_clear at (line_comment body) place none = tt
piece_clear at (block_comment body) place none = tt

-- a place where no `/` of the tokens of pieces ends
pub clear_in : (at : ℕ) (pieces : List Piece) (place : ℕ) → ((t : Token) → Contains (tokens_from at pieces) t → t.kind ≡ kind.Sign Slash
    → t.at + t.len ≡ place → ⊥) → IsClearIn at pieces place
clear_in at [] place none = tt
clear_in at (piece ∷ pieces) place none =
    let next = at + length (piece_bytes piece) in (
      piece_clear at piece place (λ t listed. none t (Contains-append_left (piece_tokens at piece) (tokens_from next pieces) t listed)),
      clear_in next pieces place
          (λ t listed. none t (Contains-append_right (piece_tokens at piece) (tokens_from next pieces) t listed)),
    )

-- the one element of a list
contained_one : (x t : Token) → Contains (x ∷ []) t → x ≡ t
contained_one x t h = ⊎_elim (λ none. absurd (omega (arith, none.1))) (λ same. same) (Contains-push_cases [] x t h)

module _ (t : Token) (place : ℕ) (code : is_code t.kind ≡ true) (edge : (place ≡ t.at) ⊎ (place ≡ t.at + t.len)) where
  -- a place where the token of a piece begins or ends
  piece_edge : (at : ℕ) (piece : Piece) → Contains (piece_tokens at piece) t → IsPieceEdge at piece place
  piece_edge at (token kind bytes) h = subst (λ (x : Token). (is_code x.kind ≡ true) × ((place ≡ x.at) ⊎ (place ≡ x.at + x.len)))
      (sym (contained_one (record { kind = kind; at = at; len = length bytes }) t h)) (code, edge)
  piece_edge at (blank b) h = absurd (omega (arith, h.1))
  piece_edge at (line_comment body) h = absurd (omega (arith, h.1))
  piece_edge at (block_comment body) h = absurd (omega (arith, h.1))

  -- a place where a token of pieces begins or ends
  token_edge : (at : ℕ) (pieces : List Piece) → Contains (tokens_from at pieces) t → IsEdgeIn at pieces place
  token_edge at [] h = absurd (omega (arith, h.1))
  token_edge at (piece ∷ pieces) h = ⊎_elim
      (λ here. inl (piece_edge at piece here))
      (λ there. inr (token_edge (at + length (piece_bytes piece)) pieces there))
      (Contains-append_cases (piece_tokens at piece) (tokens_from (at + length (piece_bytes piece)) pieces) t h)

-- a place where a token begins or ends is one among the pieces
pub edge_in : (pieces : List Piece) (end place : ℕ) → IsEdge (tokens_from 0 pieces ++ end_at end ∷ []) place → IsEdgeIn 0 pieces place
edge_in pieces end place edge = ⊎_elim
    (λ listed. token_edge edge.token place edge.is_code edge.edge 0 pieces listed)
    (λ last. let same = contained_one (end_at end) edge.token last in absurd (omega (arith, edge.some, ap (λ (t : Token). t.len) same)))
    (Contains-append_cases (tokens_from 0 pieces) (end_at end ∷ []) edge.token edge.listed)
