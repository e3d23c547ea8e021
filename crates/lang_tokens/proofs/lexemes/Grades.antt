-- What the longest lexeme of a text is, as a function of its bytes and of what follows.
use Rattle.std.proofs.Common.{◌≡◌, ◌≤◌, ◌<◌, ℕ, Bool, true, false, cond, ltb, List, [], ◌∷◌, ◌++◌, length, take, refl, ap, sym, ◌∙◌, arith}
use Rattle.std.proofs.lemmas.List.{take_at, append_cancel_left}
use Rattle.std.proofs.lemmas.Bool.{lt-ltb, le-ltb, or_from}
use Rattle.std.specs.Str.Parse.{digits_value}
use Rattle.lang_tokens.specs.declared.lexicon.Lexicon.{Lexicon}
use Rattle.lang_tokens.specs.declared.lexicon.Lexicon.TheVariants.{Own}
use Rattle.lang_tokens.specs.Bytes.{is_letter, is_digit}
use Rattle.lang_tokens.specs.Directives.{starts_with_letter}
use Rattle.lang_tokens.specs.declared.token.Kind.{Kind}
use Rattle.lang_tokens.specs.declared.token.Kind.TheVariants as kind
use Rattle.lang_tokens.specs.Signs.{sign_bytes}
use Rattle.lang_tokens.specs.Words.{word_bytes}
use Rattle.lang_tokens.specs.Lexemes.{is_word, is_numeral, is_padded, longest_word, greatest_literal}
use Rattle.lang_tokens.specs.Reading.{IsLongest, IsWholeToken, is_own}
use Rattle.lang_tokens.specs.Faults.{is_bad}
use Rattle.lang_tokens.proofs.lexemes.Heads.{heads, is_mark, sign_heads, word_heads, word_spelled, numeral_heads, letter_no_digit, mark_is}
use Rattle.lang_tokens.proofs.lexemes.Spellings.{one_word, one_sign, word_short}

-- what the longest lexeme of a text is: a word or a numeral within its limits, one past them, a malformed numeral, or a sign
pub data Grade : Type 0 where
  short_word : Grade
  long_word : Grade
  good_number : Grade
  bad_number : Grade
  great_number : Grade
  plain_sign : Grade

abbrev number_grade : List ℕ → List ℕ → Grade
number_grade bytes after = cond (is_bad bytes after) bad_number (cond (ltb greatest_literal (digits_value 10 bytes)) great_number
    good_number)

-- the grade of the longest lexeme, from its bytes and what follows
abbrev pub grade : List ℕ → List ℕ → Grade
grade bytes after = cond (heads is_letter bytes) (cond (ltb longest_word (length bytes)) long_word short_word)
    (cond (heads is_digit bytes) (number_grade bytes after) plain_sign)

-- the grade that each kind of token has
abbrev pub kind_grade : Kind → Grade
kind_grade (kind.Word word) = short_word
kind_grade kind.Name = short_word
kind_grade (kind.Number value) = good_number
kind_grade (kind.Sign sign) = plain_sign
kind_grade kind = plain_sign

-- a numeral starts with no letter, and a sign with neither
numeral_no_word : (bytes : List ℕ) → heads is_digit bytes ≡ true → heads is_letter bytes ≡ false
numeral_no_word [] h = refl
numeral_no_word (b ∷ bs) h = letter_free b (is_letter b) refl h
  where
    letter_free : (b : ℕ) (t : Bool) → is_letter b ≡ t → is_digit b ≡ true → t ≡ false
    letter_free b true l d = absurd (letter_no_digit b l d)
    letter_free b false l d = refl

mark_no_letter : (bytes : List ℕ) → heads is_mark bytes ≡ true → heads is_letter bytes ≡ false
mark_no_letter [] h = refl
mark_no_letter (b ∷ bs) h = (mark_is b h).no_letter

mark_no_digit : (bytes : List ℕ) → heads is_mark bytes ≡ true → heads is_digit bytes ≡ false
mark_no_digit [] h = refl
mark_no_digit (b ∷ bs) h = (mark_is b h).no_digit

short_word_grade : (bytes after : List ℕ) → is_word bytes ≡ true → length bytes ≤ longest_word → grade bytes after ≡ short_word
short_word_grade bytes after w h = rw (word_heads bytes w, le-ltb longest_word (length bytes) h) refl

-- a word of too many bytes has the grade of long words
pub long_word_grade : (bytes after : List ℕ) → is_word bytes ≡ true → longest_word < length bytes → grade bytes after ≡ long_word
long_word_grade bytes after w h = rw (word_heads bytes w, lt-ltb longest_word (length bytes) h) refl

numeral_grade : (bytes after : List ℕ) → is_numeral bytes ≡ true → grade bytes after ≡ number_grade bytes after
numeral_grade bytes after d = let digit = numeral_heads bytes d in rw (numeral_no_word bytes digit, digit) refl

good_number_grade : (bytes after : List ℕ) → is_numeral bytes ≡ true → is_bad bytes after ≡ false → digits_value 10 bytes ≤ greatest_literal
    → grade bytes after ≡ good_number
good_number_grade bytes after d good h = numeral_grade bytes after d ∙ rw (good, le-ltb greatest_literal (digits_value 10 bytes) h) refl

-- a numeral that is too great has the grade of great numbers
pub great_number_grade : (bytes after : List ℕ) → is_numeral bytes ≡ true → is_bad bytes after ≡ false
    → greatest_literal < digits_value 10 bytes → grade bytes after ≡ great_number
great_number_grade bytes after d good h = numeral_grade bytes after d ∙ rw (good, lt-ltb greatest_literal (digits_value 10 bytes) h) refl

-- a numeral that is malformed has the grade of bad numbers
pub bad_number_grade : (bytes after : List ℕ) → is_numeral bytes ≡ true → is_bad bytes after ≡ true → grade bytes after ≡ bad_number
bad_number_grade bytes after d bad = numeral_grade bytes after d ∙ rw bad refl

sign_grade : (bytes after : List ℕ) → heads is_mark bytes ≡ true → grade bytes after ≡ plain_sign
sign_grade bytes after m = rw (mark_no_letter bytes m, mark_no_digit bytes m) refl

-- a token of the tool's own formats has the grade of its kind
pub token_grade : (kind : Kind) (bytes after : List ℕ) → is_own kind ≡ true → IsWholeToken Own kind bytes after
    → grade bytes after ≡ kind_grade kind
token_grade (kind.Word word) bytes after own t = rw (← t.is_token) (short_word_grade (word_bytes word) after (word_spelled word)
    (word_short word))
token_grade kind.Name bytes after own t = short_word_grade bytes after t.is_token.word t.is_token.short
token_grade (kind.Number value) bytes after own t = good_number_grade bytes after t.is_token.digits
    (or_from (is_padded bytes) (starts_with_letter after) t.is_token.plain t.apart) t.is_token.within
token_grade (kind.Sign sign) bytes after own t = rw (← t.is_token) (sign_grade (sign_bytes sign) after (sign_heads sign))
token_grade (kind.Foreign sort) bytes after own t = cc
token_grade (kind.Aside sort) bytes after own t = cc
token_grade kind.End bytes after own t = absurd t.is_token

-- the same bytes are a token of one kind there
pub one_kind : (k l : Kind) (bytes after : List ℕ) → is_own k ≡ true → is_own l ≡ true → IsWholeToken Own k bytes after
    → IsWholeToken Own l bytes after → k ≡ l
one_kind (kind.Word w) (kind.Word v) bytes after o p s t = ap kind.Word (one_word w v bytes s.is_token t.is_token)
one_kind (kind.Word w) kind.Name bytes after o p s t = absurd (t.is_token.free (w, s.is_token))
one_kind kind.Name (kind.Word v) bytes after o p s t = absurd (s.is_token.free (v, t.is_token))
one_kind kind.Name kind.Name bytes after o p s t = refl
one_kind (kind.Number x) (kind.Number y) bytes after o p s t = ap kind.Number (s.is_token.value_is ∙ sym t.is_token.value_is)
one_kind (kind.Sign x) (kind.Sign y) bytes after o p s t = ap kind.Sign (one_sign x y bytes s.is_token t.is_token)
one_kind (kind.Foreign x) l bytes after o p s t = cc
one_kind (kind.Aside x) l bytes after o p s t = cc
one_kind k (kind.Foreign y) bytes after o p s t = cc
one_kind k (kind.Aside y) bytes after o p s t = cc
one_kind kind.End l bytes after o p s t = absurd s.is_token
one_kind k kind.End bytes after o p s t = absurd t.is_token
one_kind k l bytes after o p s t = let same : kind_grade k ≡ kind_grade l = sym (token_grade k bytes after o s)
    ∙ token_grade l bytes after p t in
    cc

-- the longest lexeme of a text is one
pub one_longest : (lexicon : Lexicon) (a x b y : List ℕ) → IsLongest lexicon a x → IsLongest lexicon b y → a ++ x ≡ b ++ y → a ≡ b
one_longest lexicon a x b y s t e =
    let low : length b ≤ length a = s.longest b y (sym e) t.lexeme in
    let high : length a ≤ length b = t.longest a x e s.lexeme in
    sym (take_at a x (length a) refl) ∙ (ap (take (length a)) e ∙ take_at b y (length a) (omega arith))

-- what follows equal fronts of a text is equal
pub one_rest : (a x b y : List ℕ) → a ≡ b → a ++ x ≡ b ++ y → x ≡ y
one_rest a x b y same e = append_cancel_left b x y (rw same at e)
