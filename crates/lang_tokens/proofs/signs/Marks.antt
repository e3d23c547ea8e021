-- The sign of C that stands first, from the first three bytes.
use Rattle.std.proofs.Common.{◌≡◌, ◌≤◌, ◌<◌, ⊎_elim, ℕ, suc, Bool, true, false, ◌||◌, ◌&&◌, ltb, eqb, List, [], ◌∷◌}
use Rattle.std.proofs.Common.{◌++◌, length, get_or, refl, sym, ap, subst, ◌∙◌, arith, Option, Some, None, Bor, is_some, IfSome}
use Rattle.std.specs.Option.{option_copied}
use Rattle.std.proofs.lemmas.Bool.{and_parts, or_cases, or_parts, cases_Bool, cases_lt, lt-ltb, lt-leb, le-leb}
use Rattle.std.proofs.lemmas.Bool.{agree_below, agree_below_at, true_from_ne_false}
use Rattle.lang_tokens.specs.declared.lexicon.Lexicon.TheVariants.{C}
use Rattle.lang_tokens.specs.declared.lexeme.Lexeme.{Lexeme}
use Rattle.lang_tokens.specs.declared.sign.Sign.{Sign}
use Rattle.lang_tokens.specs.declared.foreign.ForeignSign.{ForeignSign}
use Rattle.lang_tokens.specs.Bytes.{is_blank, is_letter, is_digit, is_quote, is_stray}
use Rattle.lang_tokens.specs.Directives.{starts_with_digit}
use Rattle.lang_tokens.specs.Signs.{sign_bytes, foreign_bytes}
use Rattle.lang_tokens.specs.Lexemes.{IsLexeme, a_sign, an_other, a_foreign_sign, a_stray, starts_number, stray}
use Rattle.lang_tokens.specs.Reading.{IsLongest}
use Rattle.lang_tokens.specs.Steps.{LexemeFirst, IsSpelled, IsLonger, StartWith, StartWithThree, IsLongestSign, IsLongestForeign}
use Rattle.lang_tokens.proofs.lexemes.Heads.{heads, is_mark, sign_heads, foreign_heads}
use Rattle.lang_tokens.proofs.lexemes.Led.{IsMarkLed, a_sign_led, a_foreign_led, a_number_led, c_mark_starts, c_stray_starts}
use Rattle.lang_tokens.proofs.lexemes.Spellings.{sign_of, foreign_of, all_signs, all_foreign, first_sound, sign_short, foreign_short}
use Rattle.lang_tokens.proofs.lexemes.Spellings.{sign_some, foreign_some}
use Rattle.lang_tokens.proofs.signs.Longest.{second_of, start_split, start_from}

-- the third byte
abbrev pub third_of : List ℕ → Option ℕ
third_of [] = None
third_of (a ∷ []) = None
third_of (a ∷ b ∷ []) = None
third_of (a ∷ b ∷ c ∷ bs) = Some c

-- a look-up at index 2 reads the third byte, if there is one
pub third_read : (rest : List ℕ) (o : Option (Bor ℕ)) → is_some o ≡ ltb 2 (length rest) → IfSome o (λ x. x.now ≡ get_or rest 2 x.now)
    → option_copied o ≡ third_of rest
third_read [] None e h = refl
third_read [] (Some x) e h = cc
third_read (a ∷ []) None e h = refl
third_read (a ∷ []) (Some x) e h = cc
third_read (a ∷ b ∷ []) None e h = refl
third_read (a ∷ b ∷ []) (Some x) e h = cc
third_read (a ∷ b ∷ c ∷ bs) None e h =
    let yes : ltb 2 (suc (suc (suc (length bs)))) ≡ true = lt-ltb 2 (suc (suc (suc (length bs)))) (omega arith) in cc
third_read (a ∷ b ∷ c ∷ bs) (Some x) e h = ap (λ (n : ℕ). Some n) h

foreign_split : (xs : List ℕ) (b : ℕ) (bs : List ℕ) → StartWithThree xs b (second_of (b ∷ bs)) (third_of (b ∷ bs)) → length xs ≤ 3
    → (after : List ℕ) × (xs ++ after ≡ b ∷ bs)
foreign_split [] b bs h short = absurd h
foreign_split (x ∷ []) b bs h short = (bs, ap (λ (n : ℕ). n ∷ bs) h)
foreign_split (x ∷ y ∷ []) b [] h short = let none : Some y ≡ None = h.1 in cc
foreign_split (x ∷ y ∷ []) b (c ∷ cs) h short = let one : x ≡ b = h.0 in let two : Some y ≡ Some c = h.1 in (cs, cc)
foreign_split (x ∷ y ∷ z ∷ []) b [] h short = let none : Some y ≡ None = h.1 in cc
foreign_split (x ∷ y ∷ z ∷ []) b (c ∷ []) h short = let none : Some z ≡ None = h.2 in cc
foreign_split (x ∷ y ∷ z ∷ []) b (c ∷ d ∷ ds) h short =
    let one : x ≡ b = h.0 in let two : Some y ≡ Some c = h.1 in let three : Some z ≡ Some d = h.2 in (ds, cc)
foreign_split (x ∷ y ∷ z ∷ w ∷ ws) b bs h short = absurd (omega arith)

foreign_from : (xs after : List ℕ) (b : ℕ) (bs : List ℕ) → heads is_mark xs ≡ true → length xs ≤ 3 → xs ++ after ≡ b ∷ bs
    → StartWithThree xs b (second_of (b ∷ bs)) (third_of (b ∷ bs))
foreign_from [] after b bs h short e = cc
foreign_from (x ∷ []) after b bs h short e = cc
foreign_from (x ∷ y ∷ []) after b [] h short e = cc
foreign_from (x ∷ y ∷ []) after b (c ∷ cs) h short e =
    let one : x ≡ b = cc in let two : y ≡ c = cc in (one, ap (λ (n : ℕ). Some n) two)
foreign_from (x ∷ y ∷ z ∷ []) after b [] h short e = cc
foreign_from (x ∷ y ∷ z ∷ []) after b (c ∷ []) h short e = cc
foreign_from (x ∷ y ∷ z ∷ []) after b (c ∷ d ∷ ds) h short e =
    let one : x ≡ b = cc in let two : y ≡ c = cc in let three : z ≡ d = cc in
    (one, ap (λ (n : ℕ). Some n) two, ap (λ (n : ℕ). Some n) three)
foreign_from (x ∷ y ∷ z ∷ w ∷ ws) after b bs h short e = absurd (omega arith)

-- What a byte is that starts neither words, numbers, literals nor blanks.
record IsOdd (b : ℕ) (bs : List ℕ) : Type 0 where
  -- it is no blank
  pub no_blank : is_blank b ≡ false
  -- it is no letter
  pub no_letter : is_letter b ≡ false
  -- it is no quote
  pub no_quote : is_quote b ≡ false
  -- no number starts with it
  pub no_number : starts_number (b ∷ bs) ≡ false

-- A lexeme there is a sign that starts so, or one byte.
data IsOddLexeme (b : ℕ) (bs other : List ℕ) : Type 0 where
  own_odd : (sign : Sign) → sign_bytes sign ≡ other → StartWith (sign_bytes sign) b (second_of (b ∷ bs)) → IsOddLexeme b bs other
  foreign_odd : (sign : ForeignSign) → foreign_bytes sign ≡ other
      → StartWithThree (foreign_bytes sign) b (second_of (b ∷ bs)) (third_of (b ∷ bs)) → IsOddLexeme b bs other
  single_odd : length other ≡ 1 → IsOddLexeme b bs other

module _ (b : ℕ) (bs : List ℕ) (odd : IsOdd b bs) where
  no_digit : is_digit b ≡ false
  no_digit = (or_parts (is_digit b) (eqb b 46 && starts_with_digit bs) odd.no_number).0

  -- where it is no stray byte either, it is a mark
  marked : is_stray b ≡ false → is_mark b ≡ true
  marked no_stray = rw (no_stray, odd.no_letter, no_digit, odd.no_blank, odd.no_quote) refl

  mark_odd : (other after : List ℕ) → other ++ after ≡ b ∷ bs → IsMarkLed (b ∷ bs) other → IsOddLexeme b bs other
  mark_odd other after e (a_sign_led sign is) =
      own_odd sign is (start_from (sign_bytes sign) after b bs (sign_heads sign) (rw is e))
  mark_odd other after e (a_foreign_led sign is) =
      foreign_odd sign is (foreign_from (foreign_bytes sign) after b bs (foreign_heads sign) (foreign_short sign) (rw is e))
  mark_odd other after e (a_number_led n starts) = let none : true ≡ false = sym starts ∙ odd.no_number in absurd (cc)

  odd_lexeme : (other after : List ℕ) → other ++ after ≡ b ∷ bs → IsLexeme C other → IsOddLexeme b bs other
  odd_lexeme other after e lexeme = ⊎_elim
      (λ (is : is_stray b ≡ true). let one = c_stray_starts other after bs b e lexeme is in
      single_odd (sym (ap length one.1)))
      (λ (not_stray : is_stray b ≡ false). mark_odd other after e (c_mark_starts other after bs b e lexeme (marked not_stray)))
      (cases_Bool (is_stray b))

  -- what is as long as each sign that starts so is the longest lexeme
  longest_odd : (bytes after : List ℕ) → bytes ++ after ≡ b ∷ bs → IsLexeme C bytes → 1 ≤ length bytes
      → ((sign : Sign) → StartWith (sign_bytes sign) b (second_of (b ∷ bs)) → length (sign_bytes sign) ≤ length bytes)
      → ((sign : ForeignSign) → StartWithThree (foreign_bytes sign) b (second_of (b ∷ bs)) (third_of (b ∷ bs))
      → length (foreign_bytes sign) ≤ length bytes) → IsLongest C bytes after
  longest_odd bytes after e lexeme some signs foreigns = record {
    lexeme = lexeme;
    longest = λ other behind whole is_lexeme. from other (odd_lexeme other behind (whole ∙ e) is_lexeme);
  }
    where
      from : (other : List ℕ) → IsOddLexeme b bs other → length other ≤ length bytes
      from other (own_odd sign is starts) = rw (← is) (signs sign starts)
      from other (foreign_odd sign is starts) = rw (← is) (foreigns sign starts)
      from other (single_odd one) = omega arith

  -- the longest sign of the language stands first, where no longer one of C does
  own_first : (sign : Sign) (lexeme : Lexeme) → IsLongestSign b (second_of (b ∷ bs)) (Some sign)
      → ((other : ForeignSign) → StartWithThree (foreign_bytes other) b (second_of (b ∷ bs)) (third_of (b ∷ bs))
      → length (foreign_bytes other) ≤ length (sign_bytes sign)) → IsSpelled (sign_bytes sign) lexeme → LexemeFirst (b ∷ bs) lexeme
  own_first sign lexeme longest foreigns spelled =
      let found = start_split (sign_bytes sign) b bs longest.0 (sign_short sign) in
      record {
        bytes = sign_bytes sign;
        after = found.0;
        split = found.1;
        longest = longest_odd (sign_bytes sign) found.0 found.1 (a_sign sign refl) (sign_some sign) longest.1 foreigns;
        length_is = spelled.length_is;
        of_code = spelled.of_code;
      }

  -- so does the longest one that only C has, where no longer one of the language does
  foreign_first : (sign : ForeignSign) (lexeme : Lexeme) → IsLongestForeign b (second_of (b ∷ bs)) (third_of (b ∷ bs)) (Some sign)
      → ((other : Sign) → StartWith (sign_bytes other) b (second_of (b ∷ bs)) → length (sign_bytes other) ≤ length (foreign_bytes sign))
      → IsSpelled (foreign_bytes sign) lexeme → LexemeFirst (b ∷ bs) lexeme
  foreign_first sign lexeme longest signs spelled =
      let found = foreign_split (foreign_bytes sign) b bs longest.0 (foreign_short sign) in
      record {
        bytes = foreign_bytes sign;
        after = found.0;
        split = found.1;
        longest = longest_odd (foreign_bytes sign) found.0 found.1 (an_other (a_foreign_sign sign refl))
            (foreign_some sign) signs longest.1;
        length_is = spelled.length_is;
        of_code = spelled.of_code;
      }

-- a byte below 127 that only signs start with is one
abbrev is_signed : ℕ → Bool
is_signed b = is_mark b && (is_some (sign_of (b ∷ [])) || is_some (foreign_of (b ∷ [])))

signed_below : agree_below is_mark is_signed 127 ≡ true
signed_below = refl

high_stray : (b : ℕ) → is_blank b ≡ false → 127 ≤ b → is_stray b ≡ true
high_stray b no_blank high = rw (no_blank, lt-leb b 31 (omega arith), le-leb 127 b high) refl

module _ (b : ℕ) (bs : List ℕ) (odd : IsOdd b bs) (no_sign : IsLongestSign b (second_of (b ∷ bs)) None)
    (no_foreign : IsLongestForeign b (second_of (b ∷ bs)) (third_of (b ∷ bs)) None) where
  sign_no_start : (o : Option Sign) → sign_of (b ∷ []) ≡ o → is_some o ≡ true → ⊥
  sign_no_start None e h = cc
  sign_no_start (Some sign) e h = no_sign sign (subst (λ (xs : List ℕ). StartWith xs b (second_of (b ∷ bs)))
      (sym (first_sound sign_bytes all_signs (b ∷ []) sign e)) refl)

  foreign_no_start : (o : Option ForeignSign) → foreign_of (b ∷ []) ≡ o → is_some o ≡ true → ⊥
  foreign_no_start None e h = cc
  foreign_no_start (Some sign) e h =
      no_foreign sign (subst (λ (xs : List ℕ). StartWithThree xs b (second_of (b ∷ bs)) (third_of (b ∷ bs)))
      (sym (first_sound foreign_bytes all_foreign (b ∷ []) sign e)) refl)

  unsigned : is_signed b ≡ true → ⊥
  unsigned h = ⊎_elim
      (λ (own : is_some (sign_of (b ∷ [])) ≡ true). sign_no_start (sign_of (b ∷ [])) refl own)
      (λ (other : is_some (foreign_of (b ∷ [])) ≡ true). foreign_no_start (foreign_of (b ∷ [])) refl other)
      (or_cases (is_some (sign_of (b ∷ []))) (is_some (foreign_of (b ∷ [])))
      (and_parts (is_mark b) (is_some (sign_of (b ∷ [])) || is_some (foreign_of (b ∷ []))) h).1)

  -- a byte that starts no sign either is a stray one
  stray_odd : is_stray b ≡ true
  stray_odd = true_from_ne_false (is_stray b) (λ not_stray. ⊎_elim
      (λ (low : b < 127). unsigned (sym (agree_below_at is_mark is_signed 127 b signed_below low) ∙ marked b bs odd not_stray))
      (λ (high : 127 ≤ b). let is : is_stray b ≡ true = high_stray b odd.no_blank high in absurd (cc))
      (cases_lt b 127))

  -- and the longest lexeme
  stray_first : LexemeFirst (b ∷ bs) (record { kind = None; len = 1 })
  stray_first = record {
    bytes = b ∷ [];
    after = bs;
    split = refl;
    longest = longest_odd b bs odd (b ∷ []) bs refl (an_other (a_stray b stray_odd refl)) (omega arith)
        (λ sign starts. absurd (no_sign sign starts)) (λ sign starts. absurd (no_foreign sign starts));
    length_is = refl;
    of_code = stray b stray_odd refl;
  }

-- The lexeme is that of the longer of the longest signs of both sorts, or of one byte where there is none.
abbrev pub IsChosen : Option Sign → Option ForeignSign → Lexeme → Type 0
IsChosen None None lexeme = record { kind = None; len = 1 } ≡ lexeme
IsChosen (Some own) None lexeme = IsSpelled (sign_bytes own) lexeme
IsChosen None (Some foreign) lexeme = IsSpelled (foreign_bytes foreign) lexeme
IsChosen (Some own) (Some foreign) lexeme = IsLonger own foreign lexeme

chosen_first : (b : ℕ) (bs : List ℕ) (own_sign : Option Sign) (foreign_sign : Option ForeignSign) (lexeme : Lexeme) → IsOdd b bs
    → IsLongestSign b (second_of (b ∷ bs)) own_sign → IsLongestForeign b (second_of (b ∷ bs)) (third_of (b ∷ bs)) foreign_sign
    → IsChosen own_sign foreign_sign lexeme → LexemeFirst (b ∷ bs) lexeme
chosen_first b bs None None lexeme odd own foreign chosen = subst (LexemeFirst (b ∷ bs)) chosen (stray_first b bs odd own foreign)
chosen_first b bs (Some sign) None lexeme odd own foreign chosen =
    own_first b bs odd sign lexeme own (λ other starts. absurd (foreign other starts)) chosen
chosen_first b bs None (Some sign) lexeme odd own foreign chosen =
    foreign_first b bs odd sign lexeme foreign (λ other starts. absurd (own other starts)) chosen
chosen_first b bs (Some own_sign) (Some foreign_sign) lexeme odd own foreign chosen = ⊎_elim
    (λ (low : length (sign_bytes own_sign) < length (foreign_bytes foreign_sign)). foreign_first b bs odd foreign_sign lexeme foreign
    (λ other starts. omega (arith, own.1 other starts, low)) (chosen.1 low))
    (λ (high : length (foreign_bytes foreign_sign) ≤ length (sign_bytes own_sign)). own_first b bs odd own_sign lexeme own
    (λ other starts. omega (arith, foreign.1 other starts, high)) (chosen.0 high))
    (cases_lt (length (sign_bytes own_sign)) (length (foreign_bytes foreign_sign)))

-- the longest sign stands first, where the text starts with nothing else; or the first byte alone does
pub chosen_here : (rest : List ℕ) (own : Option Sign) (foreign : Option ForeignSign) (lexeme : Lexeme) → 1 ≤ length rest
    → is_blank (get_or rest 0 0) ≡ false → is_letter (get_or rest 0 0) ≡ false → is_quote (get_or rest 0 0) ≡ false
    → starts_number rest ≡ false → IsLongestSign (get_or rest 0 0) (second_of rest) own
    → IsLongestForeign (get_or rest 0 0) (second_of rest) (third_of rest) foreign → IsChosen own foreign lexeme → LexemeFirst rest lexeme
chosen_here [] own foreign lexeme some no_blank no_letter no_quote no_number signs foreigns chosen = absurd (omega arith)
chosen_here (b ∷ bs) own foreign lexeme some no_blank no_letter no_quote no_number signs foreigns chosen =
    chosen_first b bs own foreign lexeme
    (record { no_blank = no_blank; no_letter = no_letter; no_quote = no_quote; no_number = no_number }) signs foreigns chosen
