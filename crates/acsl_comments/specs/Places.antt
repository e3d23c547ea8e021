-- Which comments may stand where.
use Rattle.std.specs.Prelude.{◌≡◌, ◌≤◌, ◌<◌, ◌+◌, ◌⊎◌, ℕ, Bool, true, false, IsTrue, List, [], ◌∷◌, Contains, length, map}
use Rattle.std.specs.List.{All, list_all}
use Rattle.lang_tokens.specs.Bytes.{is_blank}
use Rattle.lang_tokens.specs.declared.lexicon.Lexicon.TheVariants.{C}
use Rattle.lang_tokens.specs.Reading.{AllFit, Piece, blank, line_comment, block_comment, token, spelling, tokens_from, is_outside}
use Rattle.lang_tokens.specs.declared.before.Before.{Before}
use Rattle.lang_tokens.specs.declared.sign.Sign.TheVariants.{Slash}
use Rattle.lang_tokens.specs.declared.token.Kind.TheVariants as kind
use Rattle.lang_tokens.specs.declared.token.Token.{Token}
use Rattle.source_constants.specs.Directives.{is_code}
use Rattle.acsl_comments.specs.declared.comment.Comment.{Comment}

-- a blank or a comment
abbrev pub is_gap_piece : Piece → Bool
is_gap_piece (blank b) = is_blank b
is_gap_piece (line_comment body) = true
is_gap_piece (block_comment body) = true
is_gap_piece (token kind bytes) = false

-- the bytes are blanks and comments, whatever stands before them in their line, if it is no directive, and whatever follows them
pub record IsGap (bytes : List ℕ) : Type 0 where
  pub pieces : List Piece
  pub spelled : spelling pieces ≡ bytes
  pub tokenless : (at : ℕ) → tokens_from at pieces ≡ []
  pub plain : IsTrue (list_all is_gap_piece pieces)
  pub fit : (before : Before) → IsTrue (is_outside before) → (rest : List ℕ) → AllFit C before pieces rest

-- places in order, from this one to that one
abbrev pub Ascend : (from to : ℕ) → List ℕ → Type 0
Ascend from to [] = from ≤ to
Ascend from to (place ∷ places) = (from ≤ place) × Ascend place to places

-- a token that stands in no directive begins or ends at the place
pub record IsEdge (tokens : List Token) (place : ℕ) : Type 0 where
  pub token : Token
  pub listed : Contains tokens token
  pub is_code : IsTrue (is_code token.kind)
  pub some : 0 < token.len
  pub edge : (place ≡ token.at) ⊎ (place ≡ token.at + token.len)

-- no `/` ends at the place: it would start a comment with what is put in
abbrev pub IsBehindNoSlash : List Token → ℕ → Type 0
IsBehindNoSlash tokens place = (t : Token) → Contains tokens t → t.kind ≡ kind.Sign Slash → t.at + t.len ≡ place → ⊥

-- comments that may be put into a text of these tokens: in order, each where a token of no directive begins or ends, and none right
-- behind a `/`
pub record MayStand (text : List ℕ) (tokens : List Token) (comments : List Comment) : Type 0 where
  pub order : Ascend 0 (length text) (map (λ c. c.place) comments)
  pub edges : All (λ c. IsEdge tokens c.place) comments
  pub gaps : All (λ c. IsGap c.bytes) comments
  pub apart : All (λ c. IsBehindNoSlash tokens c.place) comments
