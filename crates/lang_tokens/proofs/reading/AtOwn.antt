-- In the tool's own formats a piece or a fault stands where neither a comment nor a blank does.
use Rattle.std.proofs.Common.{◌≡◌, ◌≤◌, ◌<◌, ℕ, true, false, ◌||◌, eqb, List, ◌∷◌, length, take, drop, refl, arith, Option, Some, None, pos}
use Rattle.std.proofs.Common.{inl, ⊎_elim}
use Rattle.std.proofs.lemmas.Bool.{cases_lt, cases_Bool, and_parts, and_from, or_parts, not-false}
use Rattle.std.specs.List.{prefix_len}
use Rattle.std.specs.Str.Parse.{digits_value}
use Rattle.lang_tokens.specs.declared.lexicon.Lexicon.TheVariants.{Own}
use Rattle.lang_tokens.specs.declared.sign.Sign.{Sign}
use Rattle.lang_tokens.specs.declared.before.Before.{Before}
use Rattle.lang_tokens.specs.declared.before.Before.TheVariants.{Blanks, Others, Directive}
use Rattle.lang_tokens.specs.declared.fault.LexFault.TheVariants.{BadByte, LongNumber, LongName, BadNumber}
use Rattle.lang_tokens.specs.declared.token.Kind.TheVariants as kind
use Rattle.lang_tokens.specs.Signs.{sign_bytes}
use Rattle.lang_tokens.specs.Bytes.{is_letter, is_digit, is_word_byte}
use Rattle.lang_tokens.specs.Directives.{starts_comment, is_joint, is_blank_to_feed, starts_with_letter}
use Rattle.lang_tokens.specs.Lexemes.{IsReserved, is_word, is_numeral, is_padded, longest_word, greatest_literal}
use Rattle.lang_tokens.specs.Reading.{is_blank_at, is_outside}
use Rattle.lang_tokens.specs.Faults.{NothingStarts, is_bad}
use Rattle.lang_tokens.specs.Steps.{IsLongestSign}
use Rattle.lang_tokens.proofs.lexemes.Longest.{leads}
use Rattle.lang_tokens.proofs.lexemes.Openings.{lead_plain}
use Rattle.lang_tokens.proofs.lexemes.Spellings.{reserved_or_not}
use Rattle.lang_tokens.proofs.signs.Best.{LongestSign, longest_sign}
use Rattle.lang_tokens.proofs.signs.Longest.{second_of, sign_stands, nothing_stands}
use Rattle.lang_tokens.proofs.reading.Standing.{IsLongestFront, word_front, numeral_front, token_stands, long_name, bad_number, long_number}
use Rattle.lang_tokens.proofs.reading.AtComments.{AtPlace, a_piece, a_fault}

at_digit : (before : Before) (place b : ℕ) (bs : List ℕ) → is_outside before ≡ true → is_digit b ≡ true → AtPlace Own before place (b ∷ bs)
at_digit before place b bs out digit = ⊎_elim
    (λ (bad : is_bad bytes after ≡ true). a_fault (BadNumber place) (refl, out, bad_number rest len front bad))
    (λ (good : is_bad bytes after ≡ false). ⊎_elim
    (λ (great : greatest_literal < digits_value 10 bytes). a_fault (LongNumber place) (refl, out, long_number rest len front good great))
    (λ (small : digits_value 10 bytes ≤ greatest_literal).
    let both = or_parts (is_padded bytes) (starts_with_letter after) good in
    a_piece _ (token_stands before rest len (kind.Number (pos (digits_value 10 bytes)))
    (and_from (is_outside before) true out refl) front
    (record { digits = front.passes; plain = both.0; value_is = refl; within = small }) both.1))
    (cases_lt greatest_literal (digits_value 10 bytes)))
    (cases_Bool (is_bad bytes after))
  where
    rest : List ℕ
    rest = b ∷ bs

    len : ℕ
    len = prefix_len is_digit (b ∷ bs)

    bytes : List ℕ
    bytes = take len rest

    after : List ℕ
    after = drop len rest

    front : IsLongestFront Own is_numeral rest len
    front = numeral_front rest len refl (omega arith) digit

at_letter : (before : Before) (place b : ℕ) (bs : List ℕ) → is_outside before ≡ true → is_letter b ≡ true
    → AtPlace Own before place (b ∷ bs)
at_letter before place b bs out letter = ⊎_elim
    (λ (long : longest_word < len). a_fault (LongName place) (refl, out, long_name rest len front long))
    (λ (short : len ≤ longest_word). ⊎_elim
    (λ (is : IsReserved (take len rest)). a_piece _ (token_stands before rest len (kind.Word is.0)
    (and_from (is_outside before) true out refl) front is.1 tt))
    (λ (free : IsReserved (take len rest) → ⊥). a_piece _ (token_stands before rest len kind.Name
    (and_from (is_outside before) true out refl) front
    (record { word = front.passes; free = free; short = rw front.length_is short }) tt))
    (reserved_or_not (take len rest)))
    (cases_lt longest_word len)
  where
    rest : List ℕ
    rest = b ∷ bs

    len : ℕ
    len = prefix_len is_word_byte (b ∷ bs)

    front : IsLongestFront Own is_word rest len
    front = word_front Own rest len refl (omega arith) letter

at_other : (before : Before) (place b : ℕ) (bs : List ℕ) → is_outside before ≡ true → is_blank_at Own before (b ∷ bs) ≡ false
    → starts_comment (b ∷ bs) ≡ false → is_letter b ≡ false → is_digit b ≡ false → AtPlace Own before place (b ∷ bs)
at_other before place b bs out no_blank no_comment no_letter no_digit = from (longest_sign b (second_of (b ∷ bs)))
  where
    by_answer : (o : Option Sign) → IsLongestSign b (second_of (b ∷ bs)) o → AtPlace Own before place (b ∷ bs)
    by_answer (Some sign) h = a_piece _ (sign_stands before (b ∷ bs) sign (length (sign_bytes sign)) out (omega arith) no_comment no_letter
        no_digit h refl)
    by_answer None h = a_fault (BadByte place) (inl (
      refl,
      nothing_stands before (b ∷ bs) (omega arith) no_blank no_comment no_letter no_digit h,
    ))

    from : LongestSign b (second_of (b ∷ bs)) → AtPlace Own before place (b ∷ bs)
    from s = by_answer s.answer s.longest

at_outside : (before : Before) (place b : ℕ) (bs : List ℕ) → is_outside before ≡ true → is_blank_at Own before (b ∷ bs) ≡ false
    → starts_comment (b ∷ bs) ≡ false → AtPlace Own before place (b ∷ bs)
at_outside before place b bs out no_blank no_comment = ⊎_elim
    (λ (digit : is_digit b ≡ true). at_digit before place b bs out digit)
    (λ (no_digit : is_digit b ≡ false). ⊎_elim
    (λ (letter : is_letter b ≡ true). at_letter before place b bs out letter)
    (λ (no_letter : is_letter b ≡ false). at_other before place b bs out no_blank no_comment no_letter no_digit)
    (cases_Bool (is_letter b)))
    (cases_Bool (is_digit b))

-- in a directive nothing starts with a byte that is no blank and starts no comment: with a backslash at which C joins lines
pub joint_stands : (b : ℕ) (bs : List ℕ) → is_blank_at Own Directive (b ∷ bs) ≡ false → starts_comment (b ∷ bs) ≡ false
    → NothingStarts Own Directive (b ∷ bs)
joint_stands b bs no_blank no_comment = record {
  first = b;
  more = bs;
  split = refl;
  no_blank = no_blank;
  no_comment = no_comment;
  no_token = λ bytes after e lexeme. let no : eqb b 92 ≡ false = (lead_plain b (leads bytes after bs b e lexeme)).no_backslash in cc;
}
  where
    joint : is_joint (b ∷ bs) ≡ true
    joint = let some : (starts_comment (b ∷ bs) || is_joint (b ∷ bs)) ≡ true = not-false _ no_blank in rw no_comment at some

    is : eqb b 92 ≡ true
    is = (and_parts (eqb b 92) (is_blank_to_feed bs) joint).0

-- where neither a comment nor a blank does, a piece or a fault stands
pub at_own : (before : Before) (place b : ℕ) (bs : List ℕ) → is_blank_at Own before (b ∷ bs) ≡ false → starts_comment (b ∷ bs) ≡ false
    → AtPlace Own before place (b ∷ bs)
at_own Blanks place b bs no_blank no_comment = at_outside Blanks place b bs refl no_blank no_comment
at_own Others place b bs no_blank no_comment = at_outside Others place b bs refl no_blank no_comment
at_own Directive place b bs no_blank no_comment = a_fault (BadByte place) (inl (refl, joint_stands b bs no_blank no_comment))
