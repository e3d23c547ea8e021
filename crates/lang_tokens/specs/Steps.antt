-- What one step of the lexer finds at the head of the rest of a text.
use Rattle.std.specs.Prelude.{◌≡◌, ◌≤◌, ◌<◌, ◌+◌, ◌++◌, ◌==◌, ℕ, Bool, true, false, cond, IsTrue, IsFalse, List, [], ◌∷◌, length}
use Rattle.std.specs.Prelude.{slice_index, Option, Some, None, Result}
use Rattle.std.specs.Prelude.{MatchResult}
use Rattle.std.specs.Option.{option_map}
use Rattle.lang_tokens.specs.declared.lexicon.Lexicon.{Lexicon}
use Rattle.lang_tokens.specs.declared.lexicon.Lexicon.TheVariants.{C}
use Rattle.lang_tokens.specs.declared.lexeme.Lexeme.{Lexeme}
use Rattle.lang_tokens.specs.declared.foreign.ForeignSign.{ForeignSign}
use Rattle.lang_tokens.specs.declared.token.Aside.{Aside}
use Rattle.lang_tokens.specs.declared.token.Aside.TheVariants as aside
use Rattle.lang_tokens.specs.declared.token.Kind.{Kind}
use Rattle.lang_tokens.specs.declared.token.Kind.TheVariants as kind
use Rattle.lang_tokens.specs.declared.sign.Sign.{Sign}
use Rattle.lang_tokens.specs.declared.fault.LexFault.{LexFault}
use Rattle.lang_tokens.specs.declared.found.Found.{Found}
use Rattle.lang_tokens.specs.declared.before.Before.{Before}
use Rattle.lang_tokens.specs.Directives.{is_star_joint, starts_comment}
use Rattle.lang_tokens.specs.Lexemes.{IsLexeme, IsToken, IsNoToken, goes_on}
use Rattle.lang_tokens.specs.Signs.{sign_bytes, foreign_bytes}
use Rattle.lang_tokens.specs.Reading.{Piece, blank, line_comment, block_comment, token, piece_bytes, Fits, EndsInBackslash, behind}
use Rattle.lang_tokens.specs.Reading.{is_outside, is_blank_at, IsLongest}
use Rattle.lang_tokens.specs.Faults.{Stands}

-- the kind of a piece that is a token
abbrev pub piece_kind : Piece → Option Kind
piece_kind (token kind bytes) = Some kind
piece_kind (blank b) = None
piece_kind (line_comment body) = None
piece_kind (block_comment body) = None

-- A piece of this kind and length stands first, behind what stands before it in its line, and so much is known of the line behind it.
pub record StandsFirst (lexicon : Lexicon) (before : Before) (rest : List ℕ) (found : Found) : Type 0 where
  pub piece : Piece
  pub after : List ℕ
  pub split : piece_bytes piece ++ after ≡ rest
  pub fits : Fits lexicon before piece after
  pub length_is : length (piece_bytes piece) ≡ found.len
  pub kind_is : piece_kind piece ≡ found.kind
  pub behind_is : behind before piece ≡ found.behind

-- The piece that stands first is found, or the fault that stands there.
abbrev pub Finds : Lexicon → Before → List ℕ → ℕ → Result Found LexFault → Type 0
Finds lexicon before rest place result =
    MatchResult result (StandsFirst lexicon before rest) (λ fault. Stands lexicon fault before place rest)

-- The same wherever no directive goes on.
abbrev pub FindsOutside : Lexicon → List ℕ → ℕ → Result Found LexFault → Type 0
FindsOutside lexicon rest place result = (before : Before) → IsTrue (is_outside before) → Finds lexicon before rest place result

-- In a C file neither a blank nor a comment stands first.
pub record IsBare (before : Before) (rest : List ℕ) : Type 0 where
  pub some : 1 ≤ length rest
  pub no_blank : IsFalse (is_blank_at C before rest)
  pub no_comment : IsFalse (starts_comment rest)

-- No lexeme of C stands first.
abbrev pub NoLexemeFirst : List ℕ → Type 0
NoLexemeFirst rest = (bytes after : List ℕ) → bytes ++ after ≡ rest → IsLexeme C bytes → ⊥

-- a token of this kind stands outside of directives
abbrev pub is_of_code : Kind → Bool
is_of_code (kind.Aside sort) = false
is_of_code kind = true

-- outside of directives the bytes are a token of this kind, or none
abbrev pub IsOfCode : Option Kind → List ℕ → Type 0
IsOfCode (Some kind) bytes = IsTrue (is_of_code kind) × IsToken kind bytes
IsOfCode None bytes = IsNoToken bytes

-- The longest lexeme of C that stands first is this one.
pub record LexemeFirst (rest : List ℕ) (lexeme : Lexeme) : Type 0 where
  pub bytes : List ℕ
  pub after : List ℕ
  pub split : bytes ++ after ≡ rest
  pub longest : IsLongest C bytes after
  pub length_is : length bytes ≡ lexeme.len
  pub of_code : IsOfCode lexeme.kind bytes

-- The lexeme has these bytes.
pub record IsSpelled (bytes : List ℕ) (lexeme : Lexeme) : Type 0 where
  pub length_is : length bytes ≡ lexeme.len
  pub of_code : IsOfCode lexeme.kind bytes

-- The lexeme is that of the longer sign.
abbrev pub IsLonger : Sign → ForeignSign → Lexeme → Type 0
IsLonger own foreign lexeme =
    (length (foreign_bytes foreign) ≤ length (sign_bytes own) → IsSpelled (sign_bytes own) lexeme)
    × (length (sign_bytes own) < length (foreign_bytes foreign) → IsSpelled (foreign_bytes foreign) lexeme)

-- what a lexeme is in a directive that is a token of this kind outside
abbrev pub aside_of : Option Kind → Aside
aside_of (Some (kind.Word word)) = aside.Word word
aside_of (Some kind.Name) = aside.Name
aside_of (Some (kind.Number value)) = aside.Number value
aside_of (Some (kind.Sign sign)) = aside.Sign sign
aside_of kind = aside.Foreign

-- how many of the bytes a number of C goes on with behind this byte
abbrev pub going_on : ℕ → List ℕ → ℕ
going_on last [] = 0
going_on last (b ∷ bs) = cond (goes_on last b) (1 + going_on b bs) 0

-- where the quote stands that closes a literal of this quote
abbrev pub closing : ℕ → Bool → List ℕ → Option ℕ
closing quote passes [] = None
closing quote true (b ∷ bs) = cond (b == 10) None (option_map (λ place. 1 + place) (closing quote false bs))
closing quote false (b ∷ bs) =
    cond (b == 10) None (cond (b == quote) (Some 0) (option_map (λ place. 1 + place) (closing quote (b == 92) bs)))

-- `*/` stands at this place
abbrev pub ClosesAt : List ℕ → ℕ → Type 0
ClosesAt text place = (slice_index text place ≡ 42) × (slice_index text (place + 1) ≡ 47)

-- the first place at which it stands, or none
abbrev pub IsFirstClose : List ℕ → Option ℕ → Type 0
IsFirstClose text None = (place : ℕ) → ClosesAt text place → ⊥
IsFirstClose text (Some place) = ClosesAt text place × ((other : ℕ) → other < place → ClosesAt text other → ⊥)

-- the first place at which a `*` stands with a `\` right behind it that joins lines, or none
abbrev pub IsFirstJoint : List ℕ → Option ℕ → Type 0
IsFirstJoint text None = (place : ℕ) → IsFalse (is_star_joint text place)
IsFirstJoint text (Some place) = IsTrue (is_star_joint text place) × ((other : ℕ) → other < place → IsFalse (is_star_joint text other))

-- the place of the backslash that a line ends in, or none
abbrev pub IsLastBackslash : List ℕ → Option ℕ → Type 0
IsLastBackslash line None = (place : ℕ) → EndsInBackslash line place → ⊥
IsLastBackslash line (Some place) = EndsInBackslash line place

-- These bytes start with the first byte of a text and its second one, if there is one.
abbrev pub StartWith : List ℕ → ℕ → Option ℕ → Type 0
StartWith [] first second = ⊥
StartWith (b ∷ []) first second = b ≡ first
StartWith (b ∷ c ∷ bs) first second = (b ≡ first) × (Some c ≡ second)

-- the longest sign that starts so, or none
abbrev pub IsLongestSign : ℕ → Option ℕ → Option Sign → Type 0
IsLongestSign first second None = (sign : Sign) → StartWith (sign_bytes sign) first second → ⊥
IsLongestSign first second (Some sign) =
    StartWith (sign_bytes sign) first second
    × ((other : Sign) → StartWith (sign_bytes other) first second → length (sign_bytes other) ≤ length (sign_bytes sign))

-- These bytes start with the first byte of a text and the two behind it, if there are any.
abbrev pub StartWithThree : List ℕ → ℕ → Option ℕ → Option ℕ → Type 0
StartWithThree [] first second third = ⊥
StartWithThree (b ∷ []) first second third = b ≡ first
StartWithThree (b ∷ c ∷ []) first second third = (b ≡ first) × (Some c ≡ second)
StartWithThree (b ∷ c ∷ d ∷ bs) first second third = (b ≡ first) × (Some c ≡ second) × (Some d ≡ third)

-- the longest sign that only C has and that starts so, or none
abbrev pub IsLongestForeign : ℕ → Option ℕ → Option ℕ → Option ForeignSign → Type 0
IsLongestForeign first second third None = (sign : ForeignSign) → StartWithThree (foreign_bytes sign) first second third → ⊥
IsLongestForeign first second third (Some sign) =
    StartWithThree (foreign_bytes sign) first second third
    × ((other : ForeignSign) → StartWithThree (foreign_bytes other) first second third
    → length (foreign_bytes other) ≤ length (foreign_bytes sign))
