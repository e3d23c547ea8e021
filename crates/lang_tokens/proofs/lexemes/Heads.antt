-- The first byte tells words, numbers, signs, blanks and comments apart.
use Rattle.std.proofs.Common.{◌≡◌, ℕ, Bool, true, false, not, ◌||◌, ◌&&◌, cond, eqb, List, [], ◌∷◌, ◌++◌, refl, ap, sym, ◌∙◌, arith}
use Rattle.std.proofs.Common.{⊎_elim}
use Rattle.std.proofs.lemmas.Bool.{and_parts, or_parts, or_cases, or_left, or_right, leb-true, eqb-true, not-true, false_from_ne_true}
use Rattle.lang_tokens.specs.Bytes.{is_blank, is_letter, is_digit, is_quote, is_stray}
use Rattle.lang_tokens.specs.Directives.{starts_with_digit}
use Rattle.lang_tokens.specs.declared.foreign.ForeignSign.{ForeignSign}
use Rattle.lang_tokens.specs.declared.foreign.ForeignSign.TheVariants as foreign
use Rattle.lang_tokens.specs.declared.sign.Sign.{Sign}
use Rattle.lang_tokens.specs.declared.sign.Sign.TheVariants.{LeftParen}
use Rattle.lang_tokens.specs.declared.word.Word.{Word}
use Rattle.lang_tokens.specs.declared.word.Word.TheVariants.{Auto}
use Rattle.lang_tokens.specs.Signs.{sign_bytes, foreign_bytes}
use Rattle.lang_tokens.specs.Words.{word_bytes}
use Rattle.lang_tokens.specs.Lexemes.{is_word, is_numeral, is_any_number}
use Rattle.lang_tokens.proofs.quoted.Parts.{is_quoted}

-- there is a first element, and it passes
abbrev pub heads : {X : Type 0} → (X → Bool) → List X → Bool
heads p [] = false
heads p (x ∷ xs) = p x

-- where the first element of a front passes a test, that of the whole list does
pub heads_front : {X : Type 0} (p : X → Bool) (other after xs : List X) (x : X) → other ++ after ≡ x ∷ xs → heads p other ≡ true
    → p x ≡ true
heads_front p [] after xs x e h = cc
heads_front p (o ∷ other) after xs x e h = let same : o ≡ x = cc in sym (ap p same) ∙ h

-- a byte that only signs start with
abbrev pub is_mark : ℕ → Bool
is_mark b = not (is_letter b || is_digit b || is_blank b || is_quote b || is_stray b)

-- a sign starts with a mark
pub sign_heads : (sign : Sign) → heads is_mark (sign_bytes sign) ≡ true
sign_heads LeftParen = refl
sign_heads _ = refl

-- so does one that only C has
pub foreign_heads : (sign : ForeignSign) → heads is_mark (foreign_bytes sign) ≡ true
foreign_heads foreign.Dot = refl
foreign_heads _ = refl

-- a reserved word is spelled as a word
pub word_spelled : (word : Word) → is_word (word_bytes word) ≡ true
word_spelled Auto = refl
word_spelled _ = refl

-- a word starts with a letter
pub word_heads : (bytes : List ℕ) → is_word bytes ≡ true → heads is_letter bytes ≡ true
word_heads [] h = h
word_heads (b ∷ bs) h = (and_parts _ _ h).0

-- a numeral starts with a digit
pub numeral_heads : (bytes : List ℕ) → is_numeral bytes ≡ true → heads is_digit bytes ≡ true
numeral_heads [] h = h
numeral_heads (b ∷ bs) h = (and_parts _ _ h).0

-- a digit or a `.`
abbrev pub leads_number : ℕ → Bool
leads_number b = is_digit b || eqb b 46

-- a number of C starts with one of these
pub number_heads : (bytes : List ℕ) → is_any_number bytes ≡ true → heads leads_number bytes ≡ true
number_heads [] h = h
number_heads (b ∷ bs) h = ⊎_elim
    (λ (digit : is_digit b ≡ true). or_left (is_digit b) (eqb b 46) digit)
    (λ (dot : (eqb b 46 && starts_with_digit bs) ≡ true). or_right (is_digit b) (eqb b 46) (and_parts _ _ dot).0)
    (or_cases (is_digit b) (eqb b 46 && starts_with_digit bs) (and_parts _ _ h).0)

-- a literal starts with a quote
pub quoted_heads : (bytes : List ℕ) → is_quoted bytes ≡ true → heads is_quote bytes ≡ true
quoted_heads [] h = h
quoted_heads (b ∷ bs) h = (and_parts _ _ h).0

-- no letter is a digit
pub letter_no_digit : (b : ℕ) → is_letter b ≡ true → is_digit b ≡ true → ⊥
letter_no_digit b l d = grind (arith, leb-true, eqb-true)

-- no letter is a quote
letter_no_quote : (b : ℕ) → is_letter b ≡ true → is_quote b ≡ true → ⊥
letter_no_quote b l q = grind (arith, leb-true, eqb-true)

-- no letter is a stray byte
letter_no_stray : (b : ℕ) → is_letter b ≡ true → is_stray b ≡ true → ⊥
letter_no_stray b l s = grind (arith, leb-true, eqb-true)

-- no digit is a quote
digit_no_quote : (b : ℕ) → is_digit b ≡ true → is_quote b ≡ true → ⊥
digit_no_quote b d q = grind (arith, leb-true, eqb-true)

-- no digit is a stray byte
digit_no_stray : (b : ℕ) → is_digit b ≡ true → is_stray b ≡ true → ⊥
digit_no_stray b d s = grind (arith, leb-true, eqb-true)

-- no quote is a stray byte
quote_no_stray : (b : ℕ) → is_quote b ≡ true → is_stray b ≡ true → ⊥
quote_no_stray b q s = grind (arith, leb-true, eqb-true)

-- what a byte may start
pub data Lead : Type 0 where
  letter_lead : Lead
  digit_lead : Lead
  quote_lead : Lead
  stray_lead : Lead
  blank_lead : Lead
  mark_lead : Lead

-- what this byte may start
abbrev pub lead : ℕ → Lead
lead b = cond (is_letter b) letter_lead (cond (is_digit b) digit_lead (cond (is_quote b) quote_lead
    (cond (is_stray b) stray_lead (cond (is_blank b) blank_lead mark_lead))))

-- a letter starts words
pub letter_leads : (b : ℕ) → is_letter b ≡ true → lead b ≡ letter_lead
letter_leads b h = rw h refl

-- a digit starts numbers
pub digit_leads : (b : ℕ) → is_digit b ≡ true → lead b ≡ digit_lead
digit_leads b h = rw (false_from_ne_true (is_letter b) (λ l. letter_no_digit b l h), h) refl

-- a quote starts literals
pub quote_leads : (b : ℕ) → is_quote b ≡ true → lead b ≡ quote_lead
quote_leads b h = rw (
  false_from_ne_true (is_letter b) (λ l. letter_no_quote b l h),
  false_from_ne_true (is_digit b) (λ d. digit_no_quote b d h),
  h,
) refl

-- a stray byte starts nothing else
pub stray_leads : (b : ℕ) → is_stray b ≡ true → lead b ≡ stray_lead
stray_leads b h = rw (
  false_from_ne_true (is_letter b) (λ l. letter_no_stray b l h),
  false_from_ne_true (is_digit b) (λ d. digit_no_stray b d h),
  false_from_ne_true (is_quote b) (λ q. quote_no_stray b q h),
  h,
) refl

blank_no_letter : (b : ℕ) → is_blank b ≡ true → is_letter b ≡ true → ⊥
blank_no_letter b k l = grind (arith, leb-true, eqb-true)

blank_no_digit : (b : ℕ) → is_blank b ≡ true → is_digit b ≡ true → ⊥
blank_no_digit b k d = grind (arith, leb-true, eqb-true)

blank_no_quote : (b : ℕ) → is_blank b ≡ true → is_quote b ≡ true → ⊥
blank_no_quote b k q = grind (arith, eqb-true)

blank_no_stray : (b : ℕ) → is_blank b ≡ true → is_stray b ≡ true → ⊥
blank_no_stray b k s = let no : is_blank b ≡ false = not-true _ (and_parts _ _ s).0 in cc

-- a blank starts nothing
pub blank_leads : (b : ℕ) → is_blank b ≡ true → lead b ≡ blank_lead
blank_leads b h = rw (
  false_from_ne_true (is_letter b) (blank_no_letter b h),
  false_from_ne_true (is_digit b) (blank_no_digit b h),
  false_from_ne_true (is_quote b) (blank_no_quote b h),
  false_from_ne_true (is_stray b) (blank_no_stray b h),
  h,
) refl

-- what a mark is not
pub record IsMark (b : ℕ) : Type 0 where
  -- a mark is no letter
  pub no_letter : is_letter b ≡ false
  -- a mark is no digit
  pub no_digit : is_digit b ≡ false
  -- a mark is no blank
  pub no_blank : is_blank b ≡ false
  -- a mark is no quote
  pub no_quote : is_quote b ≡ false
  -- a mark is no stray byte
  pub no_stray : is_stray b ≡ false

-- a byte that passes the test for marks is none of these
pub mark_is : (b : ℕ) → is_mark b ≡ true → IsMark b
mark_is b h =
    let all = or_parts _ _ (not-true _ h) in
    let four = or_parts _ _ all.0 in
    let three = or_parts _ _ four.0 in
    let two = or_parts _ _ three.0 in
    record { no_letter = two.0; no_digit = two.1; no_blank = three.1; no_quote = four.1; no_stray = all.1 }

-- a mark starts signs
pub mark_leads : (b : ℕ) → is_mark b ≡ true → lead b ≡ mark_lead
mark_leads b h = let m = mark_is b h in rw (m.no_letter, m.no_digit, m.no_quote, m.no_stray, m.no_blank) refl

-- a byte that is no stray byte is no `#`
pub plain_no_hash : (b : ℕ) → is_stray b ≡ false → eqb b 35 ≡ false
plain_no_hash b h = false_from_ne_true (eqb b 35) (λ is. let hash : b ≡ 35 = eqb-true b 35 is in let no : true ≡ false = rw hash at h in cc)

-- nor a `\`
pub plain_no_backslash : (b : ℕ) → is_stray b ≡ false → eqb b 92 ≡ false
plain_no_backslash b h =
    false_from_ne_true (eqb b 92) (λ is. let hash : b ≡ 92 = eqb-true b 92 is in let no : true ≡ false = rw hash at h in cc)
