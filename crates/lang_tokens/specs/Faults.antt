-- The fault of a text: where its reading goes on no further, and why.
use Rattle.std.specs.Prelude.{◌≡◌, ◌<◌, ◌+◌, ◌++◌, ◌⊎◌, ℕ, Bool, true, false, ◌||◌, IsTrue, IsFalse, List, ◌∷◌, length}
use Rattle.std.specs.List.{list_all}
use Rattle.std.specs.Str.Parse.{digits_value}
use Rattle.lang_tokens.specs.declared.lexicon.Lexicon.{Lexicon}
use Rattle.lang_tokens.specs.declared.lexicon.Lexicon.TheVariants.{Own, C}
use Rattle.lang_tokens.specs.declared.token.Kind.{Kind}
use Rattle.lang_tokens.specs.declared.token.Token.{Token}
use Rattle.lang_tokens.specs.declared.fault.LexFault.{LexFault}
use Rattle.lang_tokens.specs.declared.fault.LexFault.TheVariants.{BadByte, OpenComment, LongNumber, LongName, BadNumber, NoMemory}
use Rattle.lang_tokens.specs.declared.before.Before.{Before}
use Rattle.lang_tokens.specs.declared.before.Before.TheVariants.{Blanks}
use Rattle.lang_tokens.specs.Bytes.{is_on_line}
use Rattle.lang_tokens.specs.Directives.{starts_comment, is_star_joint, starts_with_letter}
use Rattle.lang_tokens.specs.Lexemes.{IsLexeme, is_word, is_numeral, is_padded, longest_word, greatest_literal}
use Rattle.lang_tokens.specs.Reading.{IsLongest, IsClosed, EndsInBackslash, is_blank_at, is_outside, may_stand, IsWholeToken, behind_all}
use Rattle.lang_tokens.specs.Reading.{ReadsUpTo}

-- No token starts with the first of these bytes: in the tool's own formats not even a lexeme, since one that is no token is a fault of its
-- own.
abbrev pub NoTokenStarts : Lexicon → Before → List ℕ → Type 0
NoTokenStarts Own before rest = (bytes after : List ℕ) → bytes ++ after ≡ rest → IsLexeme Own bytes → ⊥
NoTokenStarts C before rest = (kind : Kind) (bytes after : List ℕ) → bytes ++ after ≡ rest → IsTrue (may_stand C before kind)
    → IsWholeToken C kind bytes after → ⊥

-- There is a byte, and behind what stands before it in its line no blank, comment or token starts with it.
pub record NothingStarts (lexicon : Lexicon) (before : Before) (rest : List ℕ) : Type 0 where
  pub first : ℕ
  pub more : List ℕ
  pub split : first ∷ more ≡ rest
  pub no_blank : IsFalse (is_blank_at lexicon before (first ∷ more))
  pub no_comment : IsFalse (starts_comment (first ∷ more))
  pub no_token : NoTokenStarts lexicon before rest

-- A comment of `//` ends in a backslash at this place of its body, and a line feed follows: C joins its line with the next.
pub record IsJoinedLine (rest : List ℕ) (backslash : ℕ) : Type 0 where
  pub body : List ℕ
  pub more : List ℕ
  pub split : 47 ∷ 47 ∷ (body ++ 10 ∷ more) ≡ rest
  pub on_line : IsTrue (list_all is_on_line body)
  pub ends : EndsInBackslash body backslash

-- no `*/` stands in these bytes
abbrev pub IsUnclosed : List ℕ → Type 0
IsUnclosed more = (body after : List ℕ) → body ++ 42 ∷ 47 ∷ after ≡ more → ⊥

-- The body of a comment whose `/*` these bytes follow: up to the first `*/`, or all of them where there is none.
pub data IsBody (more body : List ℕ) : Type 0 where
  closed : (rest : List ℕ) → body ++ 42 ∷ 47 ∷ rest ≡ more → IsClosed body rest → IsBody more body
  unclosed : body ≡ more → IsUnclosed more → IsBody more body

-- A comment of `/*` has a backslash at this place of its body, with a `*` right before it, where C joins its line with the next; it is the
-- first one there.
pub record IsJoinedBlock (rest : List ℕ) (backslash : ℕ) : Type 0 where
  pub more : List ℕ
  pub split : 47 ∷ 42 ∷ more ≡ rest
  pub body : List ℕ
  pub is_body : IsBody more body
  pub joins : IsTrue (is_star_joint (42 ∷ body) backslash)
  pub first : (other : ℕ) → other < backslash → IsFalse (is_star_joint (42 ∷ body) other)

-- A comment starts with `/*`, no `*/` follows, and C joins no lines behind a `*`.
pub record IsOpen (rest : List ℕ) : Type 0 where
  pub more : List ℕ
  pub split : 47 ∷ 42 ∷ more ≡ rest
  pub unclosed : IsUnclosed more
  pub unjoined : (place : ℕ) → IsFalse (is_star_joint (42 ∷ more) place)

-- a numeral with a needless 0, or with a letter or `_` at its end
abbrev pub is_bad : List ℕ → List ℕ → Bool
is_bad bytes after = is_padded bytes || starts_with_letter after

-- The longest lexeme is a numeral that is bad.
pub record IsBadNumber (rest : List ℕ) : Type 0 where
  pub bytes : List ℕ
  pub after : List ℕ
  pub split : bytes ++ after ≡ rest
  pub longest : IsLongest Own bytes after
  pub digits : IsTrue (is_numeral bytes)
  pub bad : IsTrue (is_bad bytes after)

-- The longest lexeme is a numeral that is not bad, but too great.
pub record IsLongNumber (rest : List ℕ) : Type 0 where
  pub bytes : List ℕ
  pub after : List ℕ
  pub split : bytes ++ after ≡ rest
  pub longest : IsLongest Own bytes after
  pub digits : IsTrue (is_numeral bytes)
  pub good : IsFalse (is_bad bytes after)
  pub great : greatest_literal < digits_value 10 bytes

-- The longest lexeme is a word of too many bytes.
pub record IsLongName (rest : List ℕ) : Type 0 where
  pub bytes : List ℕ
  pub after : List ℕ
  pub split : bytes ++ after ≡ rest
  pub longest : IsLongest Own bytes after
  pub word : IsTrue (is_word bytes)
  pub long : longest_word < length bytes

-- A comment has a backslash at this place behind its first two bytes that makes it another one to C.
abbrev pub IsJoined : List ℕ → ℕ → Type 0
IsJoined rest backslash = IsJoinedLine rest backslash ⊎ IsJoinedBlock rest backslash

-- A byte is bad where nothing starts with it, or where it is such a backslash of a comment.
abbrev pub IsBadByte : Lexicon → ℕ → Before → ℕ → List ℕ → Type 0
IsBadByte lexicon at before place rest =
    ((at ≡ place) × NothingStarts lexicon before rest) ⊎ ((backslash : ℕ) × (at ≡ place + 2 + backslash) × IsJoined rest backslash)

-- numbers and words are faults here where they are no tokens: in the tool's own formats, outside of directives
abbrev pub is_strict : Lexicon → Before → Bool
is_strict Own before = is_outside before
is_strict C before = false

-- The fault stands at this place, behind what stands before it in its line, where the text goes on with this rest.
abbrev pub Stands : Lexicon → LexFault → Before → ℕ → List ℕ → Type 0
Stands lexicon (BadByte at) before place rest = IsBadByte lexicon at before place rest
Stands lexicon (OpenComment at) before place rest = (at ≡ place) × IsOpen rest
Stands lexicon (LongNumber at) before place rest = (at ≡ place) × IsTrue (is_strict lexicon before) × IsLongNumber rest
Stands lexicon (LongName at) before place rest = (at ≡ place) × IsTrue (is_strict lexicon before) × IsLongName rest
Stands lexicon (BadNumber at) before place rest = (at ≡ place) × IsTrue (is_strict lexicon before) × IsBadNumber rest
Stands lexicon NoMemory before place rest = ⊥

-- The fault of a text: the text reads up to its place, and it stands there.
pub record HasFault (lexicon : Lexicon) (text : List ℕ) (fault : LexFault) : Type 0 where
  pub place : ℕ
  pub tokens : List Token
  pub rest : List ℕ
  pub reads : ReadsUpTo lexicon text place tokens rest
  pub stands : Stands lexicon fault (behind_all Blanks reads.pieces) place rest

-- a bad byte or an open comment
abbrev pub is_byte_or_comment : LexFault → Bool
is_byte_or_comment (BadByte at) = true
is_byte_or_comment (OpenComment at) = true
is_byte_or_comment fault = false
