-- No token has a byte that a blank or a comment starts with, but for a `/` that is its first one, and for literals; and none has a line
-- feed.
use Rattle.std.proofs.Common.{◌≡◌, ◌<◌, ◌⊎◌, inl, inr, ⊎_elim, ℕ, Bool, true, false, cond, not, ◌||◌, ◌&&◌, eqb, List, [], ◌∷◌}
use Rattle.std.proofs.Common.{◌++◌, length, refl, sym, ap, subst, arith}
use Rattle.std.specs.List.{list_all}
use Rattle.std.proofs.lemmas.Bool.{and_from, and_parts, not-true, eqb-true}
use Rattle.lang_tokens.specs.Bytes.{is_blank, is_letter, is_digit, is_word_byte, is_on_line, is_quote, is_exponent, is_stray}
use Rattle.lang_tokens.specs.declared.lexicon.Lexicon.TheVariants.{C}
use Rattle.lang_tokens.specs.declared.sign.Sign.{Sign}
use Rattle.lang_tokens.specs.declared.sign.Sign.TheVariants.{LeftParen}
use Rattle.lang_tokens.specs.declared.foreign.ForeignSign.{ForeignSign}
use Rattle.lang_tokens.specs.declared.foreign.ForeignSign.TheVariants.{Dot}
use Rattle.lang_tokens.specs.declared.before.Before.{Before}
use Rattle.lang_tokens.specs.Signs.{sign_bytes, foreign_bytes}
use Rattle.lang_tokens.specs.Lexemes.{IsLexeme, a_word, a_number, a_sign, an_other, a_foreign_sign, a_quoted, a_stray}
use Rattle.lang_tokens.specs.Lexemes.{is_word, is_any_number, goes_on, all_go_on, starts_number}
use Rattle.acsl_comments.proofs.pieces.Quoted.{is_nothing, closes, is_quoted, quoted_test}
use Rattle.lang_tokens.specs.declared.before.Before.TheVariants.{Blanks, Others, Directive}
use Rattle.lang_tokens.specs.Reading.{Piece, blank, line_comment, block_comment, token, piece_bytes, Fits, is_outside, behind_blank}
use Rattle.lang_tokens.specs.Reading.{behind_comment}

-- a byte that a blank or a comment starts with
abbrev pub starts_gap : ℕ → Bool
starts_gap b = is_blank b || eqb b 47

-- a byte that neither starts with
abbrev pub is_plain : ℕ → Bool
is_plain b = not (starts_gap b)

-- the first byte passes the test
abbrev pub heads : (ℕ → Bool) → List ℕ → Bool
heads p [] = false
heads p (b ∷ bs) = p b

-- ---- bytes
-- what fails on a byte is true of another one
other_byte : (p : ℕ → Bool) (b c : ℕ) → p c ≡ false → p b ≡ true → eqb b c ≡ false
other_byte p b c none h = by_test (eqb b c) refl where
  by_test : (t : Bool) → eqb b c ≡ t → t ≡ false
  by_test false e = refl
  by_test true e = let same = ap p (eqb-true b c e) in cc

-- what fails on each blank is true of none
pub no_blank : (p : ℕ → Bool) (b : ℕ) → p 32 ≡ false → p 9 ≡ false → p 13 ≡ false → p 10 ≡ false → p b ≡ true → is_blank b ≡ false
no_blank p b space tab return feed h =
    rw (other_byte p b 32 space h, other_byte p b 9 tab h, other_byte p b 13 return h, other_byte p b 10 feed h) refl

-- what fails on each blank and on `/` is plain
plain_by : (p : ℕ → Bool) (b : ℕ) → p 32 ≡ false → p 9 ≡ false → p 13 ≡ false → p 10 ≡ false → p 47 ≡ false → p b ≡ true → is_plain b ≡ true
plain_by p b space tab return feed slash h = rw (no_blank p b space tab return feed h, other_byte p b 47 slash h) refl

-- what fails on a line feed stands on the line
on_line_by : (p : ℕ → Bool) (b : ℕ) → p 10 ≡ false → p b ≡ true → is_on_line b ≡ true
on_line_by p b feed h = rw (other_byte p b 10 feed h) refl

-- a plain byte stands on the line
plain_on_line : (b : ℕ) → is_plain b ≡ true → is_on_line b ≡ true
plain_on_line b h = on_line_by is_plain b refl h

-- a letter is plain,
letter_plain : (b : ℕ) → is_letter b ≡ true → is_plain b ≡ true
letter_plain b h = plain_by is_letter b refl refl refl refl refl h

-- so is what a word goes on with,
word_byte_plain : (b : ℕ) → is_word_byte b ≡ true → is_plain b ≡ true
word_byte_plain b h = plain_by is_word_byte b refl refl refl refl refl h

-- and what a number of C goes on with.
number_byte_plain : (last b : ℕ) → goes_on last b ≡ true → is_plain b ≡ true
number_byte_plain last b h = by_last (is_exponent last) h where
  by_last : (t : Bool) → ((is_word_byte b || eqb b 46) || (t && (eqb b 43 || eqb b 45))) ≡ true → is_plain b ≡ true
  by_last true h = plain_by (λ x. (is_word_byte x || eqb x 46) || (eqb x 43 || eqb x 45)) b refl refl refl refl refl h
  by_last false h = plain_by (λ x. (is_word_byte x || eqb x 46) || false) b refl refl refl refl refl h

-- what passes a test passes a weaker one
all_weaker : (p q : ℕ → Bool) → ((b : ℕ) → p b ≡ true → q b ≡ true) → (bytes : List ℕ) → list_all p bytes ≡ true → list_all q bytes ≡ true
all_weaker p q weaker [] h = refl
all_weaker p q weaker (b ∷ bytes) h =
    let both = and_parts (p b) (list_all p bytes) h in
    and_from (q b) (list_all q bytes) (weaker b both.0) (all_weaker p q weaker bytes both.1)

-- ---- lexemes
-- the bytes that a number goes on with are plain
all_plain : (last : ℕ) (bytes : List ℕ) → all_go_on last bytes ≡ true → list_all is_plain bytes ≡ true
all_plain last [] h = refl
all_plain last (b ∷ bytes) h =
    let both = and_parts (goes_on last b) (all_go_on b bytes) h in
    and_from (is_plain b) (list_all is_plain bytes) (number_byte_plain last b both.0) (all_plain b bytes both.1)

-- the first byte is no blank, and no further one starts a blank or a comment
abbrev pub is_gapless : List ℕ → Bool
is_gapless [] = false
is_gapless (b ∷ bs) = not (is_blank b) && list_all is_plain bs

-- so it is where a first byte that is no blank goes before plain ones
gapless_from : (b : ℕ) (bytes : List ℕ) → is_blank b ≡ false → list_all is_plain bytes ≡ true → is_gapless (b ∷ bytes) ≡ true
gapless_from b bytes first more = rw (first, more) refl

-- a word
word_gapless : (bytes : List ℕ) → is_word bytes ≡ true → is_gapless bytes ≡ true
word_gapless [] h = h
word_gapless (b ∷ bytes) h =
    let both = and_parts (is_letter b) (list_all is_word_byte bytes) h in
    gapless_from b bytes (no_blank is_letter b refl refl refl refl both.0) (all_weaker is_word_byte is_plain word_byte_plain bytes both.1)

-- the first byte of a number
number_first : (b : ℕ) (t : Bool) → (is_digit b || (eqb b 46 && t)) ≡ true → is_blank b ≡ false
number_first b true h = no_blank (λ x. is_digit x || (eqb x 46 && true)) b refl refl refl refl h
number_first b false h = no_blank (λ x. is_digit x || (eqb x 46 && false)) b refl refl refl refl h

-- a number
number_gapless : (bytes : List ℕ) → is_any_number bytes ≡ true → is_gapless bytes ≡ true
number_gapless [] h = h
number_gapless (b ∷ bytes) h =
    let both = and_parts (starts_number (b ∷ bytes)) (all_go_on b bytes) h in
    gapless_from b bytes (number_first b _ both.0) (all_plain b bytes both.1)

-- a sign
sign_gapless : (sign : Sign) → is_gapless (sign_bytes sign) ≡ true
sign_gapless LeftParen = refl
sign_gapless _ = refl

-- a sign that only C has
foreign_gapless : (sign : ForeignSign) → is_gapless (foreign_bytes sign) ≡ true
foreign_gapless Dot = refl
foreign_gapless _ = refl

-- a byte that is none of these
stray_gapless : (b : ℕ) → is_stray b ≡ true → is_gapless (b ∷ []) ≡ true
stray_gapless b h = gapless_from b [] (not-true (is_blank b) (and_parts (not (is_blank b)) _ h).0) refl

-- each lexeme is so, or a literal
pub lexeme_gapless : (bytes : List ℕ) → IsLexeme C bytes → (is_gapless bytes ≡ true) ⊎ (is_quoted bytes ≡ true)
lexeme_gapless bytes (a_word w) = inl (word_gapless bytes w)
lexeme_gapless bytes (a_number d) = inl (number_gapless bytes d)
lexeme_gapless bytes (a_sign sign e) = inl (subst (λ (bs : List ℕ). is_gapless bs ≡ true) e (sign_gapless sign))
lexeme_gapless bytes (an_other (a_foreign_sign sign e)) =
    inl (subst (λ (bs : List ℕ). is_gapless bs ≡ true) e (foreign_gapless sign))
lexeme_gapless bytes (an_other (a_quoted q)) = inr (quoted_test bytes q)
lexeme_gapless bytes (an_other (a_stray b s e)) = inl (subst (λ (bs : List ℕ). is_gapless bs ≡ true) e (stray_gapless b s))

-- no byte behind the first of a literal is a line feed
closes_on_line : (quote : ℕ) (passes : Bool) (bytes : List ℕ) → closes quote passes bytes ≡ true → list_all is_on_line bytes ≡ true
closes_on_line quote passes [] h = refl
closes_on_line quote true (b ∷ bytes) h =
    let both = and_parts (is_on_line b) (closes quote false bytes) h in
    and_from (is_on_line b) (list_all is_on_line bytes) both.0 (closes_on_line quote false bytes both.1)
closes_on_line quote false (b ∷ bytes) h =
    let both = and_parts (is_on_line b) _ h in
    and_from (is_on_line b) (list_all is_on_line bytes) both.0
    (by_quote bytes (eqb b quote) (λ i. closes_on_line quote (eqb b 92) bytes i) both.1) where
      by_quote : (bytes : List ℕ) (t : Bool) → (closes quote (eqb b 92) bytes ≡ true → list_all is_on_line bytes ≡ true)
          → cond t (is_nothing bytes) (closes quote (eqb b 92) bytes) ≡ true → list_all is_on_line bytes ≡ true
      by_quote [] true more i = refl
      by_quote (c ∷ cs) true more i = let none : false ≡ true = i in cc
      by_quote bytes false more i = more i

-- a literal stands on its line
quoted_on_line : (bytes : List ℕ) → is_quoted bytes ≡ true → list_all is_on_line bytes ≡ true
quoted_on_line [] h = refl
quoted_on_line (b ∷ bytes) h =
    let both = and_parts (is_quote b) (closes b false bytes) h in
    and_from (is_on_line b) (list_all is_on_line bytes) (on_line_by is_quote b refl both.0) (closes_on_line b false bytes both.1)

-- so does what is gapless
gapless_on_line : (bytes : List ℕ) → is_gapless bytes ≡ true → list_all is_on_line bytes ≡ true
gapless_on_line [] h = refl
gapless_on_line (b ∷ bytes) h =
    let both = and_parts (not (is_blank b)) (list_all is_plain bytes) h in
    and_from (is_on_line b) (list_all is_on_line bytes) (on_line_by (λ x. not (is_blank x)) b refl both.0)
    (all_weaker is_plain is_on_line plain_on_line bytes both.1)

-- and each lexeme
pub lexeme_on_line : (bytes : List ℕ) → IsLexeme C bytes → list_all is_on_line bytes ≡ true
lexeme_on_line bytes l = ⊎_elim (gapless_on_line bytes) (quoted_on_line bytes) (lexeme_gapless bytes l)

-- a lexeme has a byte
pub lexeme_some : (bytes : List ℕ) → IsLexeme C bytes → 0 < length bytes
lexeme_some [] l = ⊎_elim (λ (h : false ≡ true). absurd cc) (λ (h : false ≡ true). absurd cc) (lexeme_gapless [] l)
lexeme_some (b ∷ bytes) l = omega arith

-- a piece has one, too
pub piece_some : (before : Before) (piece : Piece) (rest : List ℕ) → Fits C before piece rest → 0 < length (piece_bytes piece)
piece_some before (blank b) rest fits = omega arith
piece_some before (line_comment body) rest fits = omega arith
piece_some before (block_comment body) rest fits = omega arith
piece_some before (token kind bytes) rest fits = lexeme_some bytes fits.1.longest.lexeme

-- ---- a byte among others
-- none that passes the test is among those that fail it
none_among : (p : ℕ → Bool) (front back : List ℕ) (b : ℕ) → list_all p (front ++ b ∷ back) ≡ true → p b ≡ false → ⊥
none_among p [] back b h none = let is : p b ≡ true = (and_parts (p b) (list_all p back) h).0 in cc
none_among p (a ∷ front) back b h none = none_among p front back b (and_parts (p a) (list_all p (front ++ b ∷ back)) h).1 none

-- what starts a blank or a comment is not behind the first byte of what is gapless
pub no_gap_behind : (front back : List ℕ) (b : ℕ) → 0 < length front → is_gapless (front ++ b ∷ back) ≡ true → starts_gap b ≡ true → ⊥
no_gap_behind [] back b some h g = absurd (omega arith)
no_gap_behind (a ∷ front) back b some h g =
    none_among is_plain front back b (and_parts (not (is_blank a)) (list_all is_plain (front ++ b ∷ back)) h).1 (rw g refl)

-- a line feed is in no lexeme
pub no_feed_in : (front back : List ℕ) → IsLexeme C (front ++ 10 ∷ back) → ⊥
no_feed_in front back l = none_among is_on_line front back 10 (lexeme_on_line (front ++ 10 ∷ back) l) refl

-- ---- literals
-- what closes at one place closes at no later one
closes_once : (quote : ℕ) (passes : Bool) (bytes more : List ℕ) → closes quote passes bytes ≡ true
    → closes quote passes (bytes ++ more) ≡ true
    → more ≡ []
closes_once quote passes [] more h i = let none : false ≡ true = h in cc
closes_once quote true (b ∷ bytes) more h i =
    closes_once quote false bytes more (and_parts (is_on_line b) (closes quote false bytes) h).1
    (and_parts (is_on_line b) (closes quote false (bytes ++ more)) i).1
closes_once quote false (b ∷ bytes) more h i =
    by_quote bytes (eqb b quote) (λ x y. closes_once quote (eqb b 92) bytes more x y) (and_parts (is_on_line b) _ h).1
    (and_parts (is_on_line b) _ i).1 where
      by_quote : (bytes : List ℕ) (t : Bool)
          → (closes quote (eqb b 92) bytes ≡ true → closes quote (eqb b 92) (bytes ++ more) ≡ true → more ≡ [])
          → cond t (is_nothing bytes) (closes quote (eqb b 92) bytes) ≡ true
          → cond t (is_nothing (bytes ++ more)) (closes quote (eqb b 92) (bytes ++ more)) ≡ true → more ≡ []
      by_quote bytes false rest x y = rest x y
      by_quote (c ∷ cs) true rest x y = let none : false ≡ true = x in cc
      by_quote [] true rest x y = empty more y where
        empty : (m : List ℕ) → is_nothing m ≡ true → m ≡ []
        empty [] z = refl
        empty (n ∷ m) z = let none : false ≡ true = z in cc

-- what fails on both quotes is true of none
no_quote : (p : ℕ → Bool) (b : ℕ) → p 34 ≡ false → p 39 ≡ false → p b ≡ true → is_quote b ≡ false
no_quote p b double single h = rw (other_byte p b 34 double h, other_byte p b 39 single h) refl

-- the first byte of a number
number_no_quote : (b : ℕ) (t : Bool) → (is_digit b || (eqb b 46 && t)) ≡ true → is_quote b ≡ false
number_no_quote b true h = no_quote (λ x. is_digit x || (eqb x 46 && true)) b refl refl h
number_no_quote b false h = no_quote (λ x. is_digit x || (eqb x 46 && false)) b refl refl h

-- that of a sign
sign_no_quote : (sign : Sign) → heads is_quote (sign_bytes sign) ≡ false
sign_no_quote LeftParen = refl
sign_no_quote _ = refl

-- that of a sign that only C has
foreign_no_quote : (sign : ForeignSign) → heads is_quote (foreign_bytes sign) ≡ false
foreign_no_quote Dot = refl
foreign_no_quote _ = refl

-- a lexeme starts with no quote, or is a literal
lexeme_quote : (bytes : List ℕ) → IsLexeme C bytes → (heads is_quote bytes ≡ false) ⊎ (is_quoted bytes ≡ true)
lexeme_quote [] l = inl refl
lexeme_quote (b ∷ bytes) (a_word w) = inl (no_quote is_letter b refl refl (and_parts (is_letter b) (list_all is_word_byte bytes) w).0)
lexeme_quote (b ∷ bytes) (a_number d) =
    inl (number_no_quote b _ (and_parts (starts_number (b ∷ bytes)) (all_go_on b bytes) d).0)
lexeme_quote (b ∷ bytes) (a_sign sign e) = inl (subst (λ (bs : List ℕ). heads is_quote bs ≡ false) e (sign_no_quote sign))
lexeme_quote (b ∷ bytes) (an_other (a_foreign_sign sign e)) =
    inl (subst (λ (bs : List ℕ). heads is_quote bs ≡ false) e (foreign_no_quote sign))
lexeme_quote (b ∷ bytes) (an_other (a_quoted q)) = inr (quoted_test (b ∷ bytes) q)
lexeme_quote (b ∷ bytes) (an_other (a_stray c s e)) =
    inl (subst (λ (bs : List ℕ). heads is_quote bs ≡ false) e (no_quote is_stray c refl refl s))

-- no literal is longer than a lexeme with which it begins
pub quoted_within : (bytes more other : List ℕ) → IsLexeme C bytes → bytes ++ more ≡ other → is_quoted other ≡ true → more ≡ []
quoted_within [] more other l e q = absurd (omega (arith, lexeme_some [] l))
quoted_within (b ∷ bytes) more other l e q =
    let P : List ℕ → Type 0 = λ bs. is_quoted bs ≡ true in
    let whole = and_parts (is_quote b) (closes b false (bytes ++ more)) (subst P (sym e) q) in
    ⊎_elim
    (λ (none : is_quote b ≡ false). let quote = whole.0 in absurd cc)
    (λ (quoted : is_quoted (b ∷ bytes) ≡ true). closes_once b false bytes more (and_parts (is_quote b) (closes b false bytes) quoted).1
    whole.1)
    (lexeme_quote (b ∷ bytes) l)

-- what starts a blank or a comment is no letter
pub gap_no_letter : (b : ℕ) → starts_gap b ≡ true → is_letter b ≡ true → ⊥
gap_no_letter b g l = let plain : starts_gap b ≡ false = not-true (starts_gap b) (letter_plain b l) in cc

-- ---- what stands before in the line
-- a blank begins no directive
pub blank_outside : (before : Before) (b : ℕ) → is_outside before ≡ true → is_blank b ≡ true → is_outside (behind_blank before b) ≡ true
blank_outside before b out h = by_tests (eqb b 10) (eqb b 35) (other_byte is_blank b 35 refl h) where
  by_tests : (feed hash : Bool) → hash ≡ false → is_outside (cond feed Blanks (cond hash Directive before)) ≡ true
  by_tests true hash e = refl
  by_tests false true e = cc
  by_tests false false e = out

-- nor does a comment
pub comment_outside : (before : Before) → is_outside before ≡ true → is_outside (behind_comment before) ≡ true
comment_outside Blanks out = refl
comment_outside Others out = refl
comment_outside Directive out = let none : false ≡ true = out in cc
