-- A text as blanks, comments and tokens.
use Rattle.std.specs.Prelude.{◌≡◌, ◌≤◌, ◌<◌, ◌+◌, ◌++◌, ℕ, Bool, false, true, not, ◌||◌, ◌&&◌, ◌==◌, cond, IsTrue, IsFalse, List, [], ◌∷◌}
use Rattle.std.specs.Prelude.{length}
use Rattle.std.specs.Prelude.{slice_index}
use Rattle.std.specs.List.{list_all}
use Rattle.lang_tokens.specs.declared.lexicon.Lexicon.{Lexicon}
use Rattle.lang_tokens.specs.declared.lexicon.Lexicon.TheVariants.{Own, C}
use Rattle.lang_tokens.specs.declared.token.Aside.TheVariants as aside
use Rattle.lang_tokens.specs.declared.token.Kind.{Kind}
use Rattle.lang_tokens.specs.declared.token.Kind.TheVariants as kind
use Rattle.lang_tokens.specs.declared.token.Token.{Token}
use Rattle.lang_tokens.specs.declared.sign.Sign.{Sign}
use Rattle.lang_tokens.specs.declared.sign.Sign.TheVariants.{Slash}
use Rattle.lang_tokens.specs.declared.before.Before.{Before}
use Rattle.lang_tokens.specs.declared.before.Before.TheVariants.{Blanks, Others, Directive}
use Rattle.lang_tokens.specs.Bytes.{is_blank, is_on_line, is_line_blank}
use Rattle.lang_tokens.specs.Lexemes.{IsLexeme, IsToken}
use Rattle.lang_tokens.specs.Directives.{starts_comment, goes_on_as_comment, is_joint, is_star_joint, starts_with_letter, is_directive}

-- a piece of a text
pub data Piece : Type 0 where
  blank : ℕ → Piece
  line_comment : List ℕ → Piece
  block_comment : List ℕ → Piece
  token : Kind → List ℕ → Piece

-- its bytes: a comment's own follow `//`, or stand between `/*` and `*/`
abbrev pub piece_bytes : Piece → List ℕ
piece_bytes (blank b) = b ∷ []
piece_bytes (line_comment body) = 47 ∷ 47 ∷ body
piece_bytes (block_comment body) = 47 ∷ 42 ∷ (body ++ 42 ∷ 47 ∷ [])
piece_bytes (token kind bytes) = bytes

-- the bytes of pieces, one after another
abbrev pub spelling : List Piece → List ℕ
spelling [] = []
spelling (piece ∷ pieces) = piece_bytes piece ++ spelling pieces

-- what stands before what follows a blank of this byte: a line feed begins a line, and a `#` is a blank only as part of a directive
abbrev pub behind_blank : Before → ℕ → Before
behind_blank before b = cond (b == 10) Blanks (cond (b == 35) Directive before)

-- what stands before what follows a token of this kind: a directive goes on behind each of its own
abbrev pub behind_token : Kind → Before
behind_token (kind.Aside sort) = Directive
behind_token kind = Others

-- what stands before what follows a comment: a directive goes on behind it
abbrev pub behind_comment : Before → Before
behind_comment Directive = Directive
behind_comment before = Others

-- what stands in its line before what follows a piece, from what stands before the piece
abbrev pub behind : Before → Piece → Before
behind before (blank b) = behind_blank before b
behind before (line_comment body) = behind_comment before
behind before (block_comment body) = behind_comment before
behind before (token kind bytes) = behind_token kind

-- the same behind several pieces
abbrev pub behind_all : Before → List Piece → Before
behind_all before [] = before
behind_all before (piece ∷ pieces) = behind_all (behind before piece) pieces

-- nothing but blanks stands before
abbrev pub is_blanks : Before → Bool
is_blanks Blanks = true
is_blanks Others = false
is_blanks Directive = false

-- no directive goes on here
abbrev pub is_outside : Before → Bool
is_outside Blanks = true
is_outside Others = true
is_outside Directive = false

-- The first of these bytes is a blank of the tool's own formats: outside of directives one of the four blanks, or the `#` of a directive
-- with nothing but blanks before it in its line; in a directive any byte at which no comment starts and where C joins no lines.
abbrev pub is_own_blank : Before → List ℕ → Bool
is_own_blank before [] = false
is_own_blank Blanks (b ∷ bs) = is_blank b || is_directive Own (b ∷ bs)
is_own_blank Others (b ∷ bs) = is_blank b
is_own_blank Directive (b ∷ bs) = not (starts_comment (b ∷ bs) || is_joint (b ∷ bs))

-- one of the four blanks at once
abbrev pub starts_with_blank : List ℕ → Bool
starts_with_blank [] = false
starts_with_blank (b ∷ bs) = is_blank b

-- the first of these bytes is a blank: in C files one of the four, also in a directive
abbrev pub is_blank_at : Lexicon → Before → List ℕ → Bool
is_blank_at Own before text = is_own_blank before text
is_blank_at C before text = starts_with_blank text

-- The bytes are a lexeme before this rest, and no longer one starts where they do.
pub record IsLongest (lexicon : Lexicon) (bytes rest : List ℕ) : Type 0 where
  pub lexeme : IsLexeme lexicon bytes
  pub longest : (other after : List ℕ) → other ++ after ≡ bytes ++ rest → IsLexeme lexicon other → length other ≤ length bytes

-- The body of a comment ends where this rest begins: at the first `*/` that follows.
abbrev pub IsClosed : List ℕ → List ℕ → Type 0
IsClosed body rest = (other after : List ℕ) → other ++ 42 ∷ 47 ∷ after ≡ body ++ 42 ∷ 47 ∷ rest → length body ≤ length other

-- C joins no lines where a `*` of the comment of this body stands: what it joins could end the comment earlier.
abbrev pub IsApartFromJoints : List ℕ → Type 0
IsApartFromJoints body = (place : ℕ) → IsFalse (is_star_joint (42 ∷ body) place)

-- no byte, or a line feed at once
abbrev pub ends_line : List ℕ → Bool
ends_line [] = true
ends_line (b ∷ bs) = b == 10

-- A line ends in the backslash at this place: behind it stand blanks alone.
pub record EndsInBackslash (line : List ℕ) (place : ℕ) : Type 0 where
  pub backslash : slice_index line place ≡ 92
  pub blank : (other : ℕ) → place < other → other < length line → IsTrue (is_line_blank (slice_index line other))

-- C joins a line that ends in a backslash with the next one, so nothing follows a line that does.
abbrev pub IsUnjoined : List ℕ → List ℕ → Type 0
IsUnjoined line rest = (place : ℕ) → EndsInBackslash line place → rest ≡ []

-- A sign is no part of what starts a comment.
abbrev pub IsSignApart : Sign → List ℕ → Type 0
IsSignApart Slash rest = IsFalse (goes_on_as_comment rest)
IsSignApart sign rest = Unit {0}

-- Nothing follows it that would be part of a number, would make a `/` the start of a comment, or would make a `\` join lines; and what
-- follows the `#` of a directive makes it one.
abbrev pub IsApart : Kind → List ℕ → List ℕ → Type 0
IsApart (kind.Number value) bytes rest = IsFalse (starts_with_letter rest)
IsApart (kind.Sign sign) bytes rest = IsSignApart sign rest
IsApart (kind.Aside aside.Hash) bytes rest = IsTrue (is_directive C (bytes ++ rest))
IsApart (kind.Aside (aside.Sign sign)) bytes rest = IsSignApart sign rest
IsApart (kind.Aside aside.Foreign) bytes rest = IsFalse (is_joint (bytes ++ rest))
IsApart kind bytes rest = Unit {0}

-- The bytes are a token of this kind, the longest lexeme at their place, and apart from what follows.
pub record IsWholeToken (lexicon : Lexicon) (kind : Kind) (bytes rest : List ℕ) : Type 0 where
  pub is_token : IsToken kind bytes
  pub longest : IsLongest lexicon bytes rest
  pub apart : IsApart kind bytes rest

-- tokens of this kind are those of the tool's own formats
abbrev pub is_own : Kind → Bool
is_own (kind.Foreign sort) = false
is_own (kind.Aside sort) = false
is_own kind = true

-- A token of this kind may stand here: in the tool's own formats one of these, outside of directives; in C files the `#` of a directive
-- where nothing but blanks stands before it in its line, the other tokens of a directive in one, and those of code outside.
abbrev pub may_stand : Lexicon → Before → Kind → Bool
may_stand Own before kind = is_outside before && is_own kind
may_stand C before (kind.Aside aside.Hash) = is_blanks before
may_stand C before (kind.Aside sort) = not (is_outside before)
may_stand C before kind = is_outside before

-- The piece is one behind what stands before it in its line, where this rest of the text follows it.
abbrev pub Fits : Lexicon → Before → Piece → List ℕ → Type 0
Fits lexicon before (blank b) rest = IsTrue (is_blank_at lexicon before (b ∷ rest))
Fits lexicon before (line_comment body) rest = IsTrue (list_all is_on_line body) × IsTrue (ends_line rest) × IsUnjoined body rest
Fits lexicon before (block_comment body) rest = IsClosed body rest × IsApartFromJoints body
Fits lexicon before (token kind bytes) rest = IsTrue (may_stand lexicon before kind) × IsWholeToken lexicon kind bytes rest

-- Each of these pieces is one, behind what stands before the first in its line, and where this rest follows the last.
abbrev pub AllFit : Lexicon → Before → List Piece → List ℕ → Type 0
AllFit lexicon before [] rest = Unit {0}
AllFit lexicon before (piece ∷ pieces) rest =
    Fits lexicon before piece (spelling pieces ++ rest) × AllFit lexicon (behind before piece) pieces rest

-- the token of a piece that starts at this place
abbrev pub piece_tokens : ℕ → Piece → List Token
piece_tokens at (token kind bytes) = record { kind = kind; at = at; len = length bytes } ∷ []
piece_tokens at piece = []

-- the tokens of pieces of which the first starts at this place
abbrev pub tokens_from : ℕ → List Piece → List Token
tokens_from at [] = []
tokens_from at (piece ∷ pieces) = piece_tokens at piece ++ tokens_from (at + length (piece_bytes piece)) pieces

-- The text reads up to this place as these tokens, and this rest follows.
pub record ReadsUpTo (lexicon : Lexicon) (text : List ℕ) (at : ℕ) (tokens : List Token) (rest : List ℕ) : Type 0 where
  pub pieces : List Piece
  pub spelled : spelling pieces ++ rest ≡ text
  pub fit : AllFit lexicon Blanks pieces rest
  pub place : length (spelling pieces) ≡ at
  pub told : tokens_from 0 pieces ≡ tokens

-- the token behind the last byte
abbrev pub end_at : ℕ → Token
end_at at = record { kind = kind.End; at = at; len = 0 }

-- The text reads as these tokens.
pub record Reads (lexicon : Lexicon) (text : List ℕ) (tokens : List Token) : Type 0 where
  pub front : List Token
  pub whole : ReadsUpTo lexicon text (length text) front []
  pub told : front ++ end_at (length text) ∷ [] ≡ tokens
