-- The lexeme of C that stands first, or none.
use Rattle.std.proofs.Common.{◌≡◌, ◌<◌, ◌≤◌, ℕ, true, false, not, ◌&&◌, List, ◌∷◌, length, take, refl, arith, Option, Some, None, pos}
use Rattle.std.proofs.Common.{⊎_elim}
use Rattle.std.proofs.lemmas.Bool.{cases_Bool, cases_lt, and_parts, and_from, not-true, not_from_false}
use Rattle.std.specs.List.{prefix_len}
use Rattle.std.specs.Str.Parse.{digits_value}
use Rattle.lang_tokens.specs.declared.lexicon.Lexicon.TheVariants.{C}
use Rattle.lang_tokens.specs.declared.lexeme.Lexeme.{Lexeme}
use Rattle.lang_tokens.specs.declared.sign.Sign.{Sign}
use Rattle.lang_tokens.specs.declared.foreign.ForeignSign.{ForeignSign}
use Rattle.lang_tokens.specs.declared.token.Foreign.TheVariants as foreign
use Rattle.lang_tokens.specs.declared.token.Kind.{Kind}
use Rattle.lang_tokens.specs.declared.token.Kind.TheVariants as kind
use Rattle.lang_tokens.specs.Bytes.{is_blank, is_letter, is_word_byte, is_quote}
use Rattle.lang_tokens.specs.Signs.{sign_bytes, foreign_bytes, is_second_spelling}
use Rattle.lang_tokens.specs.Lexemes.{IsReserved, is_word, is_numeral, is_any_number, starts_number, is_padded, longest_word}
use Rattle.lang_tokens.specs.Lexemes.{greatest_literal, foreign_sign, second_spelling}
use Rattle.lang_tokens.specs.Steps.{LexemeFirst, NoLexemeFirst, IsOfCode, IsSpelled, going_on, closing}
use Rattle.lang_tokens.proofs.lexemes.Spellings.{reserved_or_not}
use Rattle.lang_tokens.proofs.number.Going.{going_any, number_first}
use Rattle.lang_tokens.proofs.quoted.Ends.{quoted_first, no_quoted_first}
use Rattle.lang_tokens.proofs.reading.Standing.{IsLongestFront, word_front, lexeme_stands}
use Rattle.lang_tokens.proofs.signs.Best.{longest_sign, longest_foreign}
use Rattle.lang_tokens.proofs.signs.Longest.{second_of}
use Rattle.lang_tokens.proofs.signs.Marks.{third_of, IsChosen, chosen_here}

-- The lexeme that stands first, or that there is none.
pub data AtLexeme (rest : List ℕ) : Type 0 where
  a_lexeme : (lexeme : Lexeme) → LexemeFirst rest lexeme → AtLexeme rest
  no_lexeme : NoLexemeFirst rest → AtLexeme rest

at_word : (b : ℕ) (bs : List ℕ) → is_letter b ≡ true → AtLexeme (b ∷ bs)
at_word b bs letter = ⊎_elim
    (λ (long : longest_word < len). a_lexeme _ (lexeme_stands rest len (kind.Foreign foreign.LongName) front
    (refl, record { word = front.passes; long = rw front.length_is long })))
    (λ (short : len ≤ longest_word). ⊎_elim
    (λ (is : IsReserved (take len rest)). a_lexeme _ (lexeme_stands rest len (kind.Word is.0) front (refl, is.1)))
    (λ (free : IsReserved (take len rest) → ⊥). a_lexeme _ (lexeme_stands rest len kind.Name front
    (refl, record { word = front.passes; free = free; short = rw front.length_is short })))
    (reserved_or_not (take len rest)))
    (cases_lt longest_word len)
  where
    rest : List ℕ
    rest = b ∷ bs

    len : ℕ
    len = prefix_len is_word_byte (b ∷ bs)

    front : IsLongestFront C is_word rest len
    front = word_front C rest len refl (omega arith) letter

-- The kind of a number of C.
record NumberKind (bytes : List ℕ) : Type 0 where
  told : Kind
  of_code : IsOfCode (Some told) bytes

number_kind : (bytes : List ℕ) → is_any_number bytes ≡ true → NumberKind bytes
number_kind bytes n = ⊎_elim
    (λ (plain : (is_numeral bytes && not (is_padded bytes)) ≡ true).
    let both = and_parts (is_numeral bytes) (not (is_padded bytes)) plain in literal bytes both.0 (not-true (is_padded bytes) both.1))
    (λ (odd : (is_numeral bytes && not (is_padded bytes)) ≡ false). record {
      told = kind.Foreign foreign.Number;
      of_code = (refl, and_from (is_any_number bytes) (not (is_numeral bytes && not (is_padded bytes))) n (not_from_false _ odd));
    })
    (cases_Bool (is_numeral bytes && not (is_padded bytes)))
  where
    literal : (bytes : List ℕ) → is_numeral bytes ≡ true → is_padded bytes ≡ false → NumberKind bytes
    literal bytes digits plain = ⊎_elim
        (λ (great : greatest_literal < digits_value 10 bytes). record {
          told = kind.Foreign foreign.LongNumber;
          of_code = (refl, record { digits = digits; plain = plain; great = great });
        })
        (λ (small : digits_value 10 bytes ≤ greatest_literal). record {
          told = kind.Number (pos (digits_value 10 bytes));
          of_code = (refl, record { digits = digits; plain = plain; value_is = refl; within = small });
        })
        (cases_lt greatest_literal (digits_value 10 bytes))

at_number : (b : ℕ) (bs : List ℕ) → starts_number (b ∷ bs) ≡ true → AtLexeme (b ∷ bs)
at_number b bs starts =
    let known = number_kind (b ∷ take (going_on b bs) bs) (going_any b bs starts) in
    a_lexeme _ (number_first b bs known.told starts known.of_code)

at_quote : (b : ℕ) (bs : List ℕ) → is_quote b ≡ true → AtLexeme (b ∷ bs)
at_quote b bs quote = from (closing b false bs) refl
  where
    from : (o : Option ℕ) → closing b false bs ≡ o → AtLexeme (b ∷ bs)
    from (Some n) e = a_lexeme _ (quoted_first b bs n quote e)
    from None e = no_lexeme (no_quoted_first b bs quote e)

-- A lexeme of these bytes.
record SpelledLexeme (bytes : List ℕ) : Type 0 where
  lexeme : Lexeme
  spelled : IsSpelled bytes lexeme

own_lexeme : (sign : Sign) → SpelledLexeme (sign_bytes sign)
own_lexeme sign = record {
  lexeme = record { kind = Some (kind.Sign sign); len = length (sign_bytes sign) };
  spelled = record { length_is = refl; of_code = (refl, refl) };
}

foreign_lexeme : (sign : ForeignSign) → SpelledLexeme (foreign_bytes sign)
foreign_lexeme sign = ⊎_elim
    (λ (second : is_second_spelling sign ≡ true). record {
      lexeme = record { kind = None; len = length (foreign_bytes sign) };
      spelled = record { length_is = refl; of_code = second_spelling sign second refl };
    })
    (λ (first : is_second_spelling sign ≡ false). record {
      lexeme = record { kind = Some (kind.Foreign foreign.Byte); len = length (foreign_bytes sign) };
      spelled = record { length_is = refl; of_code = (refl, foreign_sign sign first refl) };
    })
    (cases_Bool (is_second_spelling sign))

record Chosen (own : Option Sign) (other : Option ForeignSign) : Type 0 where
  lexeme : Lexeme
  chosen : IsChosen own other lexeme

choose : (own : Option Sign) (other : Option ForeignSign) → Chosen own other
choose None None = record { lexeme = record { kind = None; len = 1 }; chosen = refl }
choose (Some sign) None = let made = own_lexeme sign in record { lexeme = made.lexeme; chosen = made.spelled }
choose None (Some sign) = let made = foreign_lexeme sign in record { lexeme = made.lexeme; chosen = made.spelled }
choose (Some own) (Some other) = ⊎_elim
    (λ (low : length (sign_bytes own) < length (foreign_bytes other)). let made = foreign_lexeme other in
    record { lexeme = made.lexeme; chosen = (λ high. absurd (omega (arith, low)), λ same. made.spelled) })
    (λ (high : length (foreign_bytes other) ≤ length (sign_bytes own)). let made = own_lexeme own in
    record { lexeme = made.lexeme; chosen = (λ same. made.spelled, λ low. absurd (omega (arith, high))) })
    (cases_lt (length (sign_bytes own)) (length (foreign_bytes other)))

at_mark : (b : ℕ) (bs : List ℕ) → is_blank b ≡ false → is_letter b ≡ false → is_quote b ≡ false → starts_number (b ∷ bs) ≡ false
    → AtLexeme (b ∷ bs)
at_mark b bs no_blank no_letter no_quote no_number =
    let own = longest_sign b (second_of (b ∷ bs)) in
    let other = longest_foreign b (second_of (b ∷ bs)) (third_of (b ∷ bs)) in
    let best = choose own.answer other.answer in
    a_lexeme _ (chosen_here (b ∷ bs) own.answer other.answer best.lexeme (omega arith) no_blank no_letter no_quote no_number own.longest
    other.longest best.chosen)

-- where no blank stands, a lexeme stands first, or there is none
pub at_lexeme : (b : ℕ) (bs : List ℕ) → is_blank b ≡ false → AtLexeme (b ∷ bs)
at_lexeme b bs no_blank = ⊎_elim
    (λ (letter : is_letter b ≡ true). at_word b bs letter)
    (λ (no_letter : is_letter b ≡ false). ⊎_elim
    (λ (quote : is_quote b ≡ true). at_quote b bs quote)
    (λ (no_quote : is_quote b ≡ false). ⊎_elim
    (λ (number : starts_number (b ∷ bs) ≡ true). at_number b bs number)
    (λ (no_number : starts_number (b ∷ bs) ≡ false). at_mark b bs no_blank no_letter no_quote no_number)
    (cases_Bool (starts_number (b ∷ bs))))
    (cases_Bool (is_quote b)))
    (cases_Bool (is_letter b))
