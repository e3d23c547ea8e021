-- What words, numbers and signs look like, and which token each is.
use Rattle.std.specs.Prelude.{◌≡◌, ◌≤◌, ◌<◌, ℕ, Bool, true, false, not, ◌&&◌, ◌||◌, ◌==◌, ◌++◌, IsTrue, IsFalse, List, [], ◌∷◌, length, ℤ}
use Rattle.std.specs.Prelude.{pos}
use Rattle.std.specs.List.{list_all, flat_map}
use Rattle.std.specs.Str.Parse.{digits_value}
use Rattle.lang_tokens.specs.declared.lexicon.Lexicon.{Lexicon}
use Rattle.lang_tokens.specs.declared.lexicon.Lexicon.TheVariants.{Own, C}
use Rattle.lang_tokens.specs.declared.word.Word.{Word}
use Rattle.lang_tokens.specs.declared.sign.Sign.{Sign}
use Rattle.lang_tokens.specs.declared.foreign.ForeignSign.{ForeignSign}
use Rattle.lang_tokens.specs.declared.token.Foreign.{Foreign}
use Rattle.lang_tokens.specs.declared.token.Foreign.TheVariants as foreign
use Rattle.lang_tokens.specs.declared.token.Aside.{Aside}
use Rattle.lang_tokens.specs.declared.token.Aside.TheVariants as aside
use Rattle.lang_tokens.specs.declared.token.Kind.{Kind}
use Rattle.lang_tokens.specs.declared.token.Kind.TheVariants as kind
use Rattle.lang_tokens.specs.Bytes.{is_letter, is_digit, is_word_byte, is_on_line, is_quote, is_exponent, is_stray}
use Rattle.lang_tokens.specs.Directives.{starts_with_digit}
use Rattle.lang_tokens.specs.Words.{word_bytes}
use Rattle.lang_tokens.specs.Signs.{sign_bytes, foreign_bytes, is_second_spelling}

-- a letter, and then letters and digits
abbrev pub is_word : List ℕ → Bool
is_word [] = false
is_word (b ∷ bs) = is_letter b && list_all is_word_byte bs

-- one digit or more
abbrev pub is_numeral : List ℕ → Bool
is_numeral [] = false
is_numeral (b ∷ bs) = is_digit b && list_all is_digit bs

-- behind this byte a number of C goes on with that one: a letter, a digit, `_`, `.`, or a sign right behind `e`, `E`, `p` or `P`
abbrev pub goes_on : ℕ → ℕ → Bool
goes_on last b = is_word_byte b || (b == 46) || (is_exponent last && ((b == 43) || (b == 45)))

-- behind this byte it goes on with all of these
abbrev pub all_go_on : ℕ → List ℕ → Bool
all_go_on last [] = true
all_go_on last (b ∷ bs) = goes_on last b && all_go_on b bs

-- a digit at once, or a `.` and a digit
abbrev pub starts_number : List ℕ → Bool
starts_number [] = false
starts_number (b ∷ bs) = is_digit b || ((b == 46) && starts_with_digit bs)

-- a number of C, of any spelling
abbrev pub is_any_number : List ℕ → Bool
is_any_number [] = false
is_any_number (b ∷ bs) = starts_number (b ∷ bs) && all_go_on b bs

-- a number, of which the longest is taken
abbrev pub is_number : Lexicon → List ℕ → Bool
is_number Own bytes = is_numeral bytes
is_number C bytes = is_any_number bytes

-- what stands between the quotes of a literal: bytes, and pairs of a `\` and a byte
pub data QuotedPart : Type 0 where
  plain : ℕ → QuotedPart
  escaped : ℕ → QuotedPart

-- the bytes of such a part
abbrev pub part_bytes : QuotedPart → List ℕ
part_bytes (plain b) = b ∷ []
part_bytes (escaped b) = 92 ∷ b ∷ []

-- behind this quote it is one: no line feed, and alone neither the quote nor a `\`
abbrev pub is_part : ℕ → QuotedPart → Bool
is_part quote (plain b) = is_on_line b && (not (b == quote) && not (b == 92))
is_part quote (escaped b) = is_on_line b

-- A literal of a string or a character.
pub record IsQuoted (bytes : List ℕ) : Type 0 where
  pub quote : ℕ
  pub parts : List QuotedPart
  pub quotes : IsTrue (is_quote quote)
  pub are_parts : IsTrue (list_all (is_part quote) parts)
  pub spelled : quote ∷ (flat_map part_bytes parts ++ quote ∷ []) ≡ bytes

-- What only C takes the longest of, too.
pub data IsForeignLexeme (bytes : List ℕ) : Type 0 where
  a_foreign_sign : (sign : ForeignSign) → foreign_bytes sign ≡ bytes → IsForeignLexeme bytes
  a_quoted : IsQuoted bytes → IsForeignLexeme bytes
  a_stray : (b : ℕ) → IsTrue (is_stray b) → b ∷ [] ≡ bytes → IsForeignLexeme bytes

-- what is taken so besides words, numbers and signs
abbrev pub IsOther : Lexicon → List ℕ → Type 0
IsOther Own bytes = ⊥
IsOther C bytes = IsForeignLexeme bytes

-- What the longest is taken of.
pub data IsLexeme (lexicon : Lexicon) (bytes : List ℕ) : Type 0 where
  a_word : IsTrue (is_word bytes) → IsLexeme lexicon bytes
  a_number : IsTrue (is_number lexicon bytes) → IsLexeme lexicon bytes
  a_sign : (sign : Sign) → sign_bytes sign ≡ bytes → IsLexeme lexicon bytes
  an_other : IsOther lexicon bytes → IsLexeme lexicon bytes

-- the most bytes that a word has
abbrev pub longest_word : ℕ
longest_word = 32

-- the greatest value of a literal
abbrev pub greatest_literal : ℕ
greatest_literal = 9223372036854775807

-- the bytes spell a reserved word
abbrev pub IsReserved : List ℕ → Type 0
IsReserved bytes = (word : Word) × (word_bytes word ≡ bytes)

-- a word that is not reserved, of at most so many bytes
pub record IsName (bytes : List ℕ) : Type 0 where
  pub word : IsTrue (is_word bytes)
  pub free : ¬ (IsReserved bytes)
  pub short : length bytes ≤ longest_word

-- a word of more bytes
pub record IsLongWord (bytes : List ℕ) : Type 0 where
  pub word : IsTrue (is_word bytes)
  pub long : longest_word < length bytes

-- more than one digit, of which the first is 0
abbrev pub is_padded : List ℕ → Bool
is_padded [] = false
is_padded (b ∷ []) = false
is_padded (b ∷ c ∷ bs) = b == 48

-- a literal of this value
pub record IsLiteral (value : ℤ) (bytes : List ℕ) : Type 0 where
  pub digits : IsTrue (is_numeral bytes)
  pub plain : IsFalse (is_padded bytes)
  pub value_is : value ≡ pos (digits_value 10 bytes)
  pub within : digits_value 10 bytes ≤ greatest_literal

-- what would be a literal, but is too great
pub record IsGreatLiteral (bytes : List ℕ) : Type 0 where
  pub digits : IsTrue (is_numeral bytes)
  pub plain : IsFalse (is_padded bytes)
  pub great : greatest_literal < digits_value 10 bytes

-- a number of C that would be no literal, however great one may be: not digits alone, or padded
abbrev pub is_odd_number : List ℕ → Bool
is_odd_number bytes = is_any_number bytes && not (is_numeral bytes && not (is_padded bytes))

-- A literal of a string or a character, or a sign that only C has and that is no second spelling.
pub data IsForeignByte (bytes : List ℕ) : Type 0 where
  literal : IsQuoted bytes → IsForeignByte bytes
  foreign_sign : (sign : ForeignSign) → IsFalse (is_second_spelling sign) → foreign_bytes sign ≡ bytes → IsForeignByte bytes

-- The bytes are a token that only C has, of this sort.
abbrev pub IsForeign : Foreign → List ℕ → Type 0
IsForeign foreign.Byte bytes = IsForeignByte bytes
IsForeign foreign.Number bytes = IsTrue (is_odd_number bytes)
IsForeign foreign.LongNumber bytes = IsGreatLiteral bytes
IsForeign foreign.LongName bytes = IsLongWord bytes

-- A second spelling of a sign, or a stray byte: no token outside of directives.
pub data IsNoToken (bytes : List ℕ) : Type 0 where
  second_spelling : (sign : ForeignSign) → IsTrue (is_second_spelling sign) → foreign_bytes sign ≡ bytes → IsNoToken bytes
  stray : (b : ℕ) → IsTrue (is_stray b) → b ∷ [] ≡ bytes → IsNoToken bytes

-- In a directive these are foreign.
pub data IsForeignAside (bytes : List ℕ) : Type 0 where
  foreign_outside : (sort : Foreign) → IsForeign sort bytes → IsForeignAside bytes
  nothing_outside : IsNoToken bytes → IsForeignAside bytes

-- The bytes are a token of a directive, of this sort.
abbrev pub IsAside : Aside → List ℕ → Type 0
IsAside aside.Hash bytes = 35 ∷ [] ≡ bytes
IsAside (aside.Word word) bytes = word_bytes word ≡ bytes
IsAside aside.Name bytes = IsName bytes
IsAside (aside.Number value) bytes = IsLiteral value bytes
IsAside (aside.Sign sign) bytes = sign_bytes sign ≡ bytes
IsAside aside.Foreign bytes = IsForeignAside bytes

-- The bytes are a token of this kind.
abbrev pub IsToken : Kind → List ℕ → Type 0
IsToken (kind.Word word) bytes = word_bytes word ≡ bytes
IsToken kind.Name bytes = IsName bytes
IsToken (kind.Number value) bytes = IsLiteral value bytes
IsToken (kind.Sign sign) bytes = sign_bytes sign ≡ bytes
IsToken (kind.Foreign sort) bytes = IsForeign sort bytes
IsToken (kind.Aside sort) bytes = IsAside sort bytes
IsToken kind.End bytes = ⊥
