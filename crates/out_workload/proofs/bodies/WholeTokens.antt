-- When bytes are a whole token before what follows them, by tests.
use Rattle.std.proofs.Common.{◌≡◌, ◌≤◌, ℕ, pos, Bool, true, false, ◌||◌, eqb, List, [], ◌∷◌, ◌++◌, length, refl, sym, ap, ◌∙◌, subst, arith}
use Rattle.std.proofs.lemmas.Bool.{and_parts, and_from, or_left, or_parts}
use Rattle.std.specs.List.{list_all}
use Rattle.std.specs.Str.Parse.{digits_value}
use Rattle.lang_tokens.specs.declared.lexicon.Lexicon.TheVariants.{Own}
use Rattle.lang_tokens.specs.declared.token.Kind.TheVariants as kind
use Rattle.lang_tokens.specs.declared.sign.Sign.{Sign}
use Rattle.lang_tokens.specs.declared.sign.Sign.TheVariants.{LeftParen, Slash}
use Rattle.lang_tokens.specs.declared.word.Word.{Word}
use Rattle.lang_tokens.specs.declared.word.Word.TheVariants.{Auto, Break, Case, Char, Const, Continue, Default, Do, Double, Else, Enum}
use Rattle.lang_tokens.specs.declared.word.Word.TheVariants.{Extern, Float, For, Goto, If, Inline, Int, Long, Register, Return, Short}
use Rattle.lang_tokens.specs.declared.word.Word.TheVariants.{Signed, SizeOf, Static, Struct, Switch, TypeDef, Union, Unsigned, Void}
use Rattle.lang_tokens.specs.declared.word.Word.TheVariants.{Volatile, While, Assume, Assert, Main, Nondet, VerifierAssume, VerifierAssert}
use Rattle.lang_tokens.specs.declared.word.Word.TheVariants.{VerifierNondetInt}
use Rattle.lang_tokens.specs.Bytes.{is_letter, is_digit, is_word_byte}
use Rattle.lang_tokens.specs.Words.{word_bytes}
use Rattle.lang_tokens.specs.Signs.{sign_bytes}
use Rattle.lang_tokens.specs.Lexemes.{a_word, a_number, a_sign, is_word, is_numeral, is_padded, greatest_literal, IsName}
use Rattle.lang_tokens.specs.Directives.{goes_on_as_comment, starts_with_letter}
use Rattle.lang_tokens.specs.Reading.{IsLongest, IsSignApart, IsWholeToken}
use Rattle.lang_tokens.proofs.lexemes.Heads.{heads, is_mark, sign_heads, word_spelled, mark_is}
use Rattle.lang_tokens.proofs.lexemes.Longest.{word_starts, numeral_starts, sign_starts}

-- a front of which each byte passes ends before a rest that doesn't begin with such a byte
front_short : (p : ℕ → Bool) (bytes rest other after : List ℕ) → heads p rest ≡ false → list_all p other ≡ true
    → other ++ after ≡ bytes ++ rest → length other ≤ length bytes
front_short p bytes rest [] after h k e = omega arith
front_short p [] [] (o ∷ other) after h k e = cc
front_short p [] (r ∷ rest) (o ∷ other) after h k e = let same : o ≡ r = cc in
    let yes : p o ≡ true = (and_parts (p o) (list_all p other) k).0 in let no : p o ≡ false = ap p same ∙ h in cc
front_short p (b ∷ bytes) rest (o ∷ other) after h k e = let less = front_short p bytes rest other after h
    (and_parts (p o) (list_all p other) k).1 (cc) in omega arith

-- each byte of a word is one of a word
pub word_passes : (bytes : List ℕ) → is_word bytes ≡ true → list_all is_word_byte bytes ≡ true
word_passes [] h = refl
word_passes (b ∷ bs) h = let both = and_parts (is_letter b) (list_all is_word_byte bs) h in
    and_from (is_word_byte b) (list_all is_word_byte bs) (or_left (is_letter b) (is_digit b) both.0) both.1

-- each byte of a numeral is a digit
pub numeral_passes : (bytes : List ℕ) → is_numeral bytes ≡ true → list_all is_digit bytes ≡ true
numeral_passes [] h = refl
numeral_passes (b ∷ bs) h = h

word_whole : (bytes rest : List ℕ) → is_word bytes ≡ true → heads is_word_byte rest ≡ false → IsLongest Own bytes rest
word_whole [] rest w h = cc
word_whole (b ∷ bs) rest w h = record {
  lexeme = a_word w;
  longest = λ other after e lexeme. front_short is_word_byte (b ∷ bs) rest other after h
      (word_passes other (word_starts other after (bs ++ rest) b e lexeme (and_parts (is_letter b) (list_all is_word_byte bs) w).0)) e;
}

numeral_whole : (bytes rest : List ℕ) → is_numeral bytes ≡ true → heads is_digit rest ≡ false → IsLongest Own bytes rest
numeral_whole [] rest w h = cc
numeral_whole (b ∷ bs) rest w h = record {
  lexeme = a_number w;
  longest = λ other after e lexeme. front_short is_digit (b ∷ bs) rest other after h
      (numeral_passes other (numeral_starts other after (bs ++ rest) b e lexeme (and_parts (is_digit b) (list_all is_digit bs) w).0)) e;
}

-- a byte that the sign before it may take as its second, or that makes a `/` before it the start of a comment
abbrev pub is_second : ℕ → Bool
is_second b = eqb b 61 || eqb b 43 || eqb b 45 || eqb b 38 || eqb b 124 || eqb b 42 || eqb b 47

-- the bytes but the first
abbrev behind : List ℕ → List ℕ
behind [] = []
behind (b ∷ bs) = bs

seconds : (sign : Sign) → list_all is_second (behind (sign_bytes sign)) ≡ true
seconds LeftParen = refl
seconds _ = refl

-- where no such byte follows, nothing makes a `/` the start of a comment
no_comment : (rest : List ℕ) → heads is_second rest ≡ false → goes_on_as_comment rest ≡ false
no_comment [] h = refl
no_comment (b ∷ rest) h =
    let slash = or_parts (eqb b 61 || eqb b 43 || eqb b 45 || eqb b 38 || eqb b 124 || eqb b 42) (eqb b 47) h in
    let star = or_parts (eqb b 61 || eqb b 43 || eqb b 45 || eqb b 38 || eqb b 124) (eqb b 42) slash.0 in
    rw (slash.1, star.1) refl

-- so a sign is apart from it
sign_apart : (sign : Sign) (rest : List ℕ) → heads is_second rest ≡ false → IsSignApart sign rest
sign_apart LeftParen rest h = tt
sign_apart Slash rest h = no_comment rest h
sign_apart _ rest h = tt

sign_front : (b : ℕ) (bs rest other after : List ℕ) → heads is_second rest ≡ false → list_all is_second (behind other) ≡ true
    → other ++ after ≡ b ∷ (bs ++ rest) → length other ≤ length (b ∷ bs)
sign_front b bs rest [] after h k e = omega arith
sign_front b bs rest (o ∷ other) after h k e = let less = front_short is_second bs rest other after h k (cc) in omega arith

sign_whole : (sign : Sign) (bytes rest : List ℕ) → sign_bytes sign ≡ bytes → heads is_mark bytes ≡ true → heads is_second rest ≡ false
    → IsLongest Own bytes rest
sign_whole sign [] rest e m h = cc
sign_whole sign (b ∷ bs) rest e m h = record {
  lexeme = a_sign sign e;
  longest = λ other after whole lexeme.
      let is = mark_is b m in
      let found = sign_starts other after (bs ++ rest) b whole lexeme is.no_letter is.no_digit in
      sign_front b bs rest other after h (subst (λ (x : List ℕ). list_all is_second (behind x) ≡ true) found.1 (seconds found.0)) whole;
}

-- no reserved word has one byte alone
long_word : (word : Word) → 2 ≤ length (word_bytes word)
long_word Auto = omega arith
long_word Break = omega arith
long_word Case = omega arith
long_word Char = omega arith
long_word Const = omega arith
long_word Continue = omega arith
long_word Default = omega arith
long_word Do = omega arith
long_word Double = omega arith
long_word Else = omega arith
long_word Enum = omega arith
long_word Extern = omega arith
long_word Float = omega arith
long_word For = omega arith
long_word Goto = omega arith
long_word If = omega arith
long_word Inline = omega arith
long_word Int = omega arith
long_word Long = omega arith
long_word Register = omega arith
long_word Return = omega arith
long_word Short = omega arith
long_word Signed = omega arith
long_word SizeOf = omega arith
long_word Static = omega arith
long_word Struct = omega arith
long_word Switch = omega arith
long_word TypeDef = omega arith
long_word Union = omega arith
long_word Unsigned = omega arith
long_word Void = omega arith
long_word Volatile = omega arith
long_word While = omega arith
long_word Assume = omega arith
long_word Assert = omega arith
long_word Main = omega arith
long_word Nondet = omega arith
long_word VerifierAssume = omega arith
long_word VerifierAssert = omega arith
long_word VerifierNondetInt = omega arith

-- a reserved word is a whole token where no byte of a word follows
pub a_whole_word : (word : Word) (rest : List ℕ) → heads is_word_byte rest ≡ false
    → IsWholeToken Own (kind.Word word) (word_bytes word) rest
a_whole_word word rest h = record { is_token = refl; longest = word_whole (word_bytes word) rest (word_spelled word) h; apart = tt }

-- a sign is a whole token where no second byte of a sign follows
pub a_whole_sign : (sign : Sign) (rest : List ℕ) → heads is_second rest ≡ false → IsWholeToken Own (kind.Sign sign) (sign_bytes sign) rest
a_whole_sign sign rest h = record {
  is_token = refl;
  longest = sign_whole sign (sign_bytes sign) rest refl (sign_heads sign) h;
  apart = sign_apart sign rest h;
}

-- a letter is a whole token where no byte of a word follows
pub a_whole_letter : (b : ℕ) (rest : List ℕ) → is_letter b ≡ true → heads is_word_byte rest ≡ false
    → IsWholeToken Own kind.Name (b ∷ []) rest
a_whole_letter b rest l h = record { is_token = name; longest = word_whole (b ∷ []) rest word h; apart = tt }
  where
    word : is_word (b ∷ []) ≡ true
    word = and_from (is_letter b) true l refl

    name : IsName (b ∷ [])
    name = record {
      word = word;
      free = λ r. (let e = ap length r.1 in let more = long_word r.0 in absurd (omega arith));
      short =
          omega arith;
    }

-- a numeral is a whole token where neither a digit nor a letter follows
pub a_whole_number : (n : ℕ) (bytes rest : List ℕ) → is_numeral bytes ≡ true → is_padded bytes ≡ false → digits_value 10 bytes ≡ n
    → n ≤ greatest_literal → heads is_digit rest ≡ false → starts_with_letter rest ≡ false
    → IsWholeToken Own (kind.Number (pos n)) bytes rest
a_whole_number n bytes rest d p e s h l = record {
  is_token = record { digits = d; plain = p; value_is = ap pos (sym e); within = subst (λ (x : ℕ). x ≤ greatest_literal) (sym e) s };
  longest = numeral_whole bytes rest d h;
  apart = l;
}
