-- What the lexemes of C are, by their first byte.
use Rattle.std.proofs.Common.{◌≡◌, ℕ, true, false, ◌&&◌, eqb, ⊎_elim, List, [], ◌∷◌, ◌++◌, refl, sym, subst}
use Rattle.std.proofs.lemmas.Bool.{and_parts, or_cases, or_left, eqb-true, false_from_ne_true}
use Rattle.lang_tokens.specs.declared.lexicon.Lexicon.TheVariants.{C}
use Rattle.lang_tokens.specs.declared.sign.Sign.{Sign}
use Rattle.lang_tokens.specs.declared.foreign.ForeignSign.{ForeignSign}
use Rattle.lang_tokens.specs.Bytes.{is_blank, is_letter, is_digit, is_quote, is_stray}
use Rattle.lang_tokens.specs.Directives.{starts_with_digit}
use Rattle.lang_tokens.specs.Signs.{sign_bytes, foreign_bytes}
use Rattle.lang_tokens.specs.Lexemes.{IsLexeme, a_word, a_number, a_sign, an_other, a_foreign_sign, a_quoted, a_stray}
use Rattle.lang_tokens.specs.Lexemes.{is_word, is_any_number, starts_number}
use Rattle.lang_tokens.proofs.quoted.Parts.{is_quoted, quoted_test}
use Rattle.lang_tokens.proofs.lexemes.Heads.{heads_front, is_mark, sign_heads, foreign_heads, word_heads, leads_number, number_heads}
use Rattle.lang_tokens.proofs.lexemes.Heads.{quoted_heads, Lead, letter_lead, digit_lead, quote_lead, stray_lead, blank_lead, mark_lead}
use Rattle.lang_tokens.proofs.lexemes.Heads.{lead, letter_leads, digit_leads, quote_leads, stray_leads, blank_leads, mark_leads}

-- What starts with a mark.
pub data IsMarkLed (text other : List ℕ) : Type 0 where
  a_sign_led : (sign : Sign) → sign_bytes sign ≡ other → IsMarkLed text other
  a_foreign_led : (sign : ForeignSign) → foreign_bytes sign ≡ other → IsMarkLed text other
  a_number_led : is_any_number other ≡ true → starts_number text ≡ true → IsMarkLed text other

-- What a lexeme of C is that starts with such a byte.
abbrev pub IsLed : Lead → List ℕ → List ℕ → Type 0
IsLed letter_lead text other = is_word other ≡ true
IsLed digit_lead text other = is_any_number other ≡ true
IsLed quote_lead text other = is_quoted other ≡ true
IsLed stray_lead text other = (b : ℕ) × (b ∷ [] ≡ other)
IsLed blank_lead text other = ⊥
IsLed mark_lead text other = IsMarkLed text other

-- a text starts with a number where a front of it does
starts_front : (other after text : List ℕ) → other ++ after ≡ text → starts_number other ≡ true → starts_number text ≡ true
starts_front [] after text e h = cc
starts_front (o ∷ []) after [] e h = cc
starts_front (o ∷ []) after (b ∷ bs) e h = let same : o ≡ b = cc in subst (λ (x : ℕ). starts_number (x ∷ bs) ≡ true) same
    (⊎_elim (λ (digit : is_digit o ≡ true). or_left (is_digit o) (eqb o 46 && starts_with_digit bs) digit)
    (λ (dot : (eqb o 46 && false) ≡ true). let no : false ≡ true = (and_parts (eqb o 46) false dot).1 in cc)
    (or_cases (is_digit o) (eqb o 46 && false) h))
starts_front (o ∷ p ∷ other) after [] e h = cc
starts_front (o ∷ p ∷ other) after (b ∷ []) e h = cc
starts_front (o ∷ p ∷ other) after (b ∷ c ∷ bs) e h = let first : o ≡ b = cc in let second : p ≡ c = cc in rw (← first, ← second) h

module _ (other after bs : List ℕ) (b : ℕ) (front : other ++ after ≡ b ∷ bs) where
  number_led : is_any_number other ≡ true → starts_number other ≡ true → leads_number b ≡ true → IsLed (lead b) (b ∷ bs) other
  number_led n starts first = ⊎_elim
      (λ (digit : is_digit b ≡ true). subst (λ (l : Lead). IsLed l (b ∷ bs) other) (sym (digit_leads b digit)) n)
      (λ (dot : eqb b 46 ≡ true).
      let is : is_mark b ≡ true = let same : b ≡ 46 = eqb-true b 46 dot in rw same refl in
      subst (λ (l : Lead). IsLed l (b ∷ bs) other) (sym (mark_leads b is))
      (a_number_led n (starts_front other after (b ∷ bs) front starts)))
      (or_cases (is_digit b) (eqb b 46) first)

  number_starts : (bytes : List ℕ) → is_any_number bytes ≡ true → starts_number bytes ≡ true
  number_starts [] h = h
  number_starts (x ∷ xs) h = (and_parts _ _ h).0

  -- a lexeme of C is what its first byte starts
  pub led : IsLexeme C other → IsLed (lead b) (b ∷ bs) other
  led (a_word w) = subst (λ (l : Lead). IsLed l (b ∷ bs) other)
      (sym (letter_leads b (heads_front is_letter other after bs b front (word_heads other w)))) w
  led (a_number n) = number_led n (number_starts other n) (heads_front leads_number other after bs b front (number_heads other n))
  led (a_sign sign e) = subst (λ (l : Lead). IsLed l (b ∷ bs) other)
      (sym (mark_leads b (heads_front is_mark other after bs b front (rw (← e) (sign_heads sign))))) (a_sign_led sign e)
  led (an_other (a_foreign_sign sign e)) = subst (λ (l : Lead). IsLed l (b ∷ bs) other)
      (sym (mark_leads b (heads_front is_mark other after bs b front (rw (← e) (foreign_heads sign))))) (a_foreign_led sign e)
  led (an_other (a_quoted q)) = subst (λ (l : Lead). IsLed l (b ∷ bs) other)
      (sym (quote_leads b (heads_front is_quote other after bs b front (quoted_heads other (quoted_test other q))))) (quoted_test other q)
  led (an_other (a_stray c s e)) = let same : c ≡ b = let whole : c ∷ after ≡ b ∷ bs = rw (← e) at front in cc in
      subst (λ (l : Lead). IsLed l (b ∷ bs) other) (sym (stray_leads b (rw same at s))) (c, e)

  -- no lexeme of C starts with a blank
  pub c_no_blank : IsLexeme C other → is_blank b ≡ false
  c_no_blank lexeme = false_from_ne_true (is_blank b)
      (λ is. absurd (subst (λ (x : Lead). IsLed x (b ∷ bs) other) (blank_leads b is) (led lexeme)))

  -- a lexeme of C that starts with a letter is a word
  pub c_word_starts : IsLexeme C other → is_letter b ≡ true → is_word other ≡ true
  c_word_starts lexeme l = subst (λ (x : Lead). IsLed x (b ∷ bs) other) (letter_leads b l) (led lexeme)

  -- one that starts with a quote is a literal
  pub c_quoted_starts : IsLexeme C other → is_quote b ≡ true → is_quoted other ≡ true
  c_quoted_starts lexeme q = subst (λ (x : Lead). IsLed x (b ∷ bs) other) (quote_leads b q) (led lexeme)

  -- one that starts with a digit is a number
  pub c_digit_starts : IsLexeme C other → is_digit b ≡ true → is_any_number other ≡ true
  c_digit_starts lexeme d = subst (λ (x : Lead). IsLed x (b ∷ bs) other) (digit_leads b d) (led lexeme)

  -- one that starts with a mark is a sign or a number
  pub c_mark_starts : IsLexeme C other → is_mark b ≡ true → IsMarkLed (b ∷ bs) other
  c_mark_starts lexeme m = subst (λ (x : Lead). IsLed x (b ∷ bs) other) (mark_leads b m) (led lexeme)

  -- one that starts with a stray byte is that byte
  pub c_stray_starts : IsLexeme C other → is_stray b ≡ true → (c : ℕ) × (c ∷ [] ≡ other)
  c_stray_starts lexeme s = subst (λ (x : Lead). IsLed x (b ∷ bs) other) (stray_leads b s) (led lexeme)
