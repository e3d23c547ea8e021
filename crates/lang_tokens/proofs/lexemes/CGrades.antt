-- The lexemes of C are told apart, and each is a token of one kind.
use Rattle.std.proofs.Common.{◌≡◌, ◌≤◌, ◌<◌, ℕ, Bool, true, false, not, cond, ltb, eqb, List, [], ◌∷◌, length, refl, ap, sym, subst, ◌∙◌}
use Rattle.std.proofs.Common.{Option, Some, None, is_some, arith, ⊎_elim}
use Rattle.std.proofs.lemmas.Bool.{and_parts, or_cases, leb-true, false_from_ne_true, lt-ltb, le-ltb, eqb-true}
use Rattle.std.specs.Str.Parse.{digits_value}
use Rattle.lang_tokens.specs.declared.lexicon.Lexicon.TheVariants.{C}
use Rattle.lang_tokens.specs.declared.before.Before.{Before}
use Rattle.lang_tokens.specs.declared.before.Before.TheVariants.{Blanks, Others, Directive}
use Rattle.lang_tokens.specs.declared.sign.Sign.{Sign}
use Rattle.lang_tokens.specs.declared.sign.Sign.TheVariants.{LeftParen}
use Rattle.lang_tokens.specs.declared.foreign.ForeignSign.{ForeignSign}
use Rattle.lang_tokens.specs.declared.foreign.ForeignSign.TheVariants.{Dot}
use Rattle.lang_tokens.specs.declared.token.Foreign.{Foreign}
use Rattle.lang_tokens.specs.declared.token.Foreign.TheVariants as foreign
use Rattle.lang_tokens.specs.declared.token.Aside.{Aside}
use Rattle.lang_tokens.specs.declared.token.Aside.TheVariants as aside
use Rattle.lang_tokens.specs.declared.token.Kind.{Kind}
use Rattle.lang_tokens.specs.declared.token.Kind.TheVariants as kind
use Rattle.lang_tokens.specs.Bytes.{is_letter, is_digit, is_quote, is_stray}
use Rattle.lang_tokens.specs.Signs.{sign_bytes, foreign_bytes, is_second_spelling}
use Rattle.lang_tokens.specs.Words.{word_bytes}
use Rattle.lang_tokens.specs.Lexemes.{is_word, is_numeral, is_any_number, is_odd_number, is_padded, longest_word}
use Rattle.lang_tokens.specs.Lexemes.{greatest_literal, IsForeign, IsAside, IsToken, IsForeignAside, foreign_outside, nothing_outside}
use Rattle.lang_tokens.specs.Lexemes.{IsNoToken, literal, foreign_sign, second_spelling, stray}
use Rattle.lang_tokens.specs.Reading.{is_blanks, is_outside, may_stand}
use Rattle.lang_tokens.specs.Steps.{IsOfCode}
use Rattle.lang_tokens.proofs.quoted.Parts.{is_quoted, quoted_test}
use Rattle.lang_tokens.proofs.lexemes.Heads.{heads, is_mark, sign_heads, foreign_heads, word_heads, word_spelled}
use Rattle.lang_tokens.proofs.lexemes.Heads.{leads_number, number_heads, quoted_heads, letter_no_digit, letter_lead, quote_lead, stray_lead}
use Rattle.lang_tokens.proofs.lexemes.Heads.{mark_lead, letter_leads, quote_leads, stray_leads, mark_leads}
use Rattle.lang_tokens.proofs.lexemes.Numbers.{numeral_is_number}
use Rattle.lang_tokens.proofs.lexemes.Spellings.{sign_of, foreign_of, all_signs, all_foreign, first_sound, one_word, one_sign, word_short}

-- what a lexeme of C is: a word or a number within its limits, one past them, a number of another spelling, a sign of the language,
-- another sign or a literal, or nothing that stands in code
pub data CGrade : Type 0 where
  c_short_word : CGrade
  c_long_word : CGrade
  c_good_number : CGrade
  c_odd_number : CGrade
  c_great_number : CGrade
  c_sign : CGrade
  c_foreign : CGrade
  c_nothing : CGrade

-- a sign that only C has, and no second spelling
abbrev is_real : Option ForeignSign → Bool
is_real None = false
is_real (Some sign) = not (is_second_spelling sign)

abbrev c_number_grade : List ℕ → CGrade
c_number_grade bytes = cond (is_odd_number bytes) c_odd_number (cond (ltb greatest_literal (digits_value 10 bytes)) c_great_number
    c_good_number)

abbrev c_other_grade : List ℕ → CGrade
c_other_grade bytes =
    cond (is_some (sign_of bytes)) c_sign (cond (is_quoted bytes) c_foreign (cond (is_real (foreign_of bytes)) c_foreign c_nothing))

-- the grade of a lexeme, from its bytes
abbrev c_grade : List ℕ → CGrade
c_grade bytes = cond (heads is_letter bytes) (cond (ltb longest_word (length bytes)) c_long_word c_short_word)
    (cond (is_any_number bytes) (c_number_grade bytes) (c_other_grade bytes))

abbrev foreign_grade : Foreign → CGrade
foreign_grade foreign.Byte = c_foreign
foreign_grade foreign.Number = c_odd_number
foreign_grade foreign.LongNumber = c_great_number
foreign_grade foreign.LongName = c_long_word

-- the grade of a token of code, and of what is none
abbrev code_grade : Option Kind → CGrade
code_grade None = c_nothing
code_grade (Some (kind.Word word)) = c_short_word
code_grade (Some kind.Name) = c_short_word
code_grade (Some (kind.Number value)) = c_good_number
code_grade (Some (kind.Sign sign)) = c_sign
code_grade (Some (kind.Foreign sort)) = foreign_grade sort
code_grade (Some k) = c_nothing

number_no_letter : (bytes : List ℕ) → heads leads_number bytes ≡ true → heads is_letter bytes ≡ false
number_no_letter [] h = refl
number_no_letter (b ∷ bs) h = false_from_ne_true (is_letter b) (λ l. ⊎_elim
    (λ (digit : is_digit b ≡ true). letter_no_digit b l digit)
    (λ (dot : eqb b 46 ≡ true). let same : b ≡ 46 = eqb-true b 46 dot in let none : false ≡ true = rw same at l in absurd (cc))
    (or_cases (is_digit b) (eqb b 46) h))

any_no_letter : (bytes : List ℕ) → is_any_number bytes ≡ true → heads is_letter bytes ≡ false
any_no_letter bytes n = number_no_letter bytes (number_heads bytes n)

word_graded : (bytes : List ℕ) → is_word bytes ≡ true → length bytes ≤ longest_word → c_grade bytes ≡ c_short_word
word_graded bytes w h = rw (word_heads bytes w, le-ltb longest_word (length bytes) h) refl

long_word_graded : (bytes : List ℕ) → is_word bytes ≡ true → longest_word < length bytes → c_grade bytes ≡ c_long_word
long_word_graded bytes w h = rw (word_heads bytes w, lt-ltb longest_word (length bytes) h) refl

number_graded : (bytes : List ℕ) → is_any_number bytes ≡ true → c_grade bytes ≡ c_number_grade bytes
number_graded bytes n = rw (any_no_letter bytes n, n) refl

odd_graded : (bytes : List ℕ) → is_odd_number bytes ≡ true → c_grade bytes ≡ c_odd_number
odd_graded bytes odd = number_graded bytes (and_parts _ _ odd).0 ∙ ap (λ (t : Bool). cond t c_odd_number
    (cond (ltb greatest_literal (digits_value 10 bytes)) c_great_number c_good_number)) odd

-- digits without a needless 0 are no number of another spelling
pub plain_no_odd : (bytes : List ℕ) → is_numeral bytes ≡ true → is_padded bytes ≡ false → is_odd_number bytes ≡ false
plain_no_odd bytes digits plain = rw (numeral_is_number bytes digits, digits, plain) refl

good_graded : (bytes : List ℕ) → is_numeral bytes ≡ true → is_padded bytes ≡ false → digits_value 10 bytes ≤ greatest_literal
    → c_grade bytes ≡ c_good_number
good_graded bytes digits plain h = number_graded bytes (numeral_is_number bytes digits) ∙ (ap (λ (t : Bool). cond t c_odd_number
    (cond (ltb greatest_literal (digits_value 10 bytes)) c_great_number c_good_number)) (plain_no_odd bytes digits plain)
    ∙ rw (le-ltb greatest_literal (digits_value 10 bytes) h) refl)

great_graded : (bytes : List ℕ) → is_numeral bytes ≡ true → is_padded bytes ≡ false → greatest_literal < digits_value 10 bytes
    → c_grade bytes ≡ c_great_number
great_graded bytes digits plain h = number_graded bytes (numeral_is_number bytes digits) ∙ (ap (λ (t : Bool). cond t c_odd_number
    (cond (ltb greatest_literal (digits_value 10 bytes)) c_great_number c_good_number)) (plain_no_odd bytes digits plain)
    ∙ rw (lt-ltb greatest_literal (digits_value 10 bytes) h) refl)

sign_graded : (sign : Sign) → c_grade (sign_bytes sign) ≡ c_sign
sign_graded LeftParen = refl
sign_graded _ = refl

foreign_sign_graded : (sign : ForeignSign) → c_grade (foreign_bytes sign) ≡ cond (is_second_spelling sign) c_nothing c_foreign
foreign_sign_graded Dot = refl
foreign_sign_graded _ = refl

sign_none : (b : ℕ) (bs : List ℕ) → (is_mark b ≡ true → ⊥) → is_some (sign_of (b ∷ bs)) ≡ false
sign_none b bs unmarked = from (sign_of (b ∷ bs)) refl
  where
    from : (o : Option Sign) → sign_of (b ∷ bs) ≡ o → is_some o ≡ false
    from None e = refl
    from (Some sign) e = absurd (unmarked
        (subst (λ (xs : List ℕ). heads is_mark xs ≡ true) (first_sound sign_bytes all_signs (b ∷ bs) sign e) (sign_heads sign)))

foreign_none : (b : ℕ) (bs : List ℕ) → (is_mark b ≡ true → ⊥) → is_real (foreign_of (b ∷ bs)) ≡ false
foreign_none b bs unmarked = from (foreign_of (b ∷ bs)) refl
  where
    from : (o : Option ForeignSign) → foreign_of (b ∷ bs) ≡ o → is_real o ≡ false
    from None e = refl
    from (Some sign) e = absurd (unmarked
        (subst (λ (xs : List ℕ). heads is_mark xs ≡ true) (first_sound foreign_bytes all_foreign (b ∷ bs) sign e) (foreign_heads sign)))

quote_unmarked : (b : ℕ) → is_quote b ≡ true → is_mark b ≡ true → ⊥
quote_unmarked b q m = let same : quote_lead ≡ mark_lead = sym (quote_leads b q) ∙ mark_leads b m in cc

stray_unmarked : (b : ℕ) → is_stray b ≡ true → is_mark b ≡ true → ⊥
stray_unmarked b s m = let same : stray_lead ≡ mark_lead = sym (stray_leads b s) ∙ mark_leads b m in cc

quote_no_letter : (b : ℕ) → is_quote b ≡ true → is_letter b ≡ true → ⊥
quote_no_letter b q l = let same : quote_lead ≡ letter_lead = sym (quote_leads b q) ∙ letter_leads b l in cc

stray_no_letter : (b : ℕ) → is_stray b ≡ true → is_letter b ≡ true → ⊥
stray_no_letter b s l = let same : stray_lead ≡ letter_lead = sym (stray_leads b s) ∙ letter_leads b l in cc

quote_no_number : (b : ℕ) → is_quote b ≡ true → leads_number b ≡ true → ⊥
quote_no_number b q n = grind (arith, leb-true, eqb-true)

stray_no_number : (b : ℕ) → is_stray b ≡ true → leads_number b ≡ true → ⊥
stray_no_number b s n = grind (arith, leb-true, eqb-true)

quote_no_stray : (b : ℕ) → is_stray b ≡ true → is_quote b ≡ true → ⊥
quote_no_stray b s q = let same : stray_lead ≡ quote_lead = sym (stray_leads b s) ∙ quote_leads b q in cc

literal_graded : (bytes : List ℕ) → is_quoted bytes ≡ true → c_grade bytes ≡ c_foreign
literal_graded [] h = cc
literal_graded (b ∷ bs) h =
    let quote : is_quote b ≡ true = quoted_heads (b ∷ bs) h in
    rw (
      false_from_ne_true (is_letter b) (quote_no_letter b quote),
      false_from_ne_true (is_any_number (b ∷ bs)) (λ n. quote_no_number b quote (number_heads (b ∷ bs) n)),
      sign_none b bs (quote_unmarked b quote),
      h,
    ) refl

stray_graded : (b : ℕ) → is_stray b ≡ true → c_grade (b ∷ []) ≡ c_nothing
stray_graded b h = rw (
  false_from_ne_true (is_letter b) (stray_no_letter b h),
  false_from_ne_true (is_any_number (b ∷ [])) (λ n. stray_no_number b h (number_heads (b ∷ []) n)),
  sign_none b [] (stray_unmarked b h),
  false_from_ne_true (is_quoted (b ∷ [])) (λ q. quote_no_stray b h (quoted_heads (b ∷ []) q)),
  foreign_none b [] (stray_unmarked b h),
) refl

foreign_graded : (sort : Foreign) (bytes : List ℕ) → IsForeign sort bytes → c_grade bytes ≡ foreign_grade sort
foreign_graded foreign.Byte bytes (literal q) = literal_graded bytes (quoted_test bytes q)
foreign_graded foreign.Byte bytes (foreign_sign sign first e) = rw (← e) (foreign_sign_graded sign ∙ rw first refl)
foreign_graded foreign.Number bytes t = odd_graded bytes t
foreign_graded foreign.LongNumber bytes t = great_graded bytes t.digits t.plain t.great
foreign_graded foreign.LongName bytes t = long_word_graded bytes t.word t.long

no_token_graded : (bytes : List ℕ) → IsNoToken bytes → c_grade bytes ≡ c_nothing
no_token_graded bytes (second_spelling sign second e) = rw (← e) (foreign_sign_graded sign ∙ rw second refl)
no_token_graded bytes (stray b s e) = rw (← e) (stray_graded b s)

-- a lexeme has the grade of what it is in code
code_graded : (k : Option Kind) (bytes : List ℕ) → IsOfCode k bytes → c_grade bytes ≡ code_grade k
code_graded None bytes t = no_token_graded bytes t
code_graded (Some (kind.Word word)) bytes t = rw (← t.1) (word_graded (word_bytes word) (word_spelled word) (word_short word))
code_graded (Some kind.Name) bytes t = word_graded bytes t.1.word t.1.short
code_graded (Some (kind.Number value)) bytes t = good_graded bytes t.1.digits t.1.plain t.1.within
code_graded (Some (kind.Sign sign)) bytes t = rw (← t.1) (sign_graded sign)
code_graded (Some (kind.Foreign sort)) bytes t = foreign_graded sort bytes t.1
code_graded (Some (kind.Aside sort)) bytes t = let none : false ≡ true = t.0 in cc
code_graded (Some kind.End) bytes t = absurd t.1

-- what is no token of code has no kind there
pub no_kind : (k : Kind) (bytes : List ℕ) → IsOfCode (Some k) bytes → IsNoToken bytes → ⊥
no_kind k bytes t nothing = ungraded k t (sym (code_graded (Some k) bytes t) ∙ no_token_graded bytes nothing)
  where
    ungraded : (k : Kind) → IsOfCode (Some k) bytes → code_grade (Some k) ≡ c_nothing → ⊥
    ungraded (kind.Foreign foreign.Byte) t e = cc
    ungraded (kind.Foreign foreign.Number) t e = cc
    ungraded (kind.Foreign foreign.LongNumber) t e = cc
    ungraded (kind.Foreign foreign.LongName) t e = cc
    ungraded (kind.Aside sort) t e = let none : false ≡ true = t.0 in cc
    ungraded kind.End t e = t.1
    ungraded k t e = cc

abbrev is_foreign_grade : CGrade → Bool
is_foreign_grade c_long_word = true
is_foreign_grade c_odd_number = true
is_foreign_grade c_great_number = true
is_foreign_grade c_foreign = true
is_foreign_grade g = false

foreign_is : (sort : Foreign) → is_foreign_grade (foreign_grade sort) ≡ true
foreign_is foreign.Byte = refl
foreign_is _ = refl

foreign_one : (x y : Foreign) → foreign_grade x ≡ foreign_grade y → x ≡ y
foreign_one foreign.Byte foreign.Byte e = refl
foreign_one foreign.Number foreign.Number e = refl
foreign_one foreign.LongNumber foreign.LongNumber e = refl
foreign_one foreign.LongName foreign.LongName e = refl
foreign_one x y e = cc

-- the same bytes are a token of one kind in code
code_one : (k l : Kind) (bytes : List ℕ) → IsOfCode (Some k) bytes → IsOfCode (Some l) bytes → k ≡ l
code_one k l bytes s t = from k l s t (sym (code_graded (Some k) bytes s) ∙ code_graded (Some l) bytes t)
  where
    from : (k l : Kind) → IsOfCode (Some k) bytes → IsOfCode (Some l) bytes → code_grade (Some k) ≡ code_grade (Some l) → k ≡ l
    from (kind.Aside x) l s t e = let none : false ≡ true = s.0 in cc
    from k (kind.Aside y) s t e = let none : false ≡ true = t.0 in cc
    from kind.End l s t e = absurd s.1
    from k kind.End s t e = absurd t.1
    from (kind.Word w) (kind.Word v) s t e = ap kind.Word (one_word w v bytes s.1 t.1)
    from (kind.Word w) kind.Name s t e = absurd (t.1.free (w, s.1))
    from kind.Name (kind.Word v) s t e = absurd (s.1.free (v, t.1))
    from kind.Name kind.Name s t e = refl
    from (kind.Number x) (kind.Number y) s t e = ap kind.Number (s.1.value_is ∙ sym t.1.value_is)
    from (kind.Sign x) (kind.Sign y) s t e = ap kind.Sign (one_sign x y bytes s.1 t.1)
    from (kind.Foreign x) (kind.Foreign y) s t e = ap kind.Foreign (foreign_one x y e)
    from (kind.Foreign x) l s t e = let none : true ≡ false = sym (foreign_is x) ∙ ap is_foreign_grade e in cc
    from k (kind.Foreign y) s t e = let none : true ≡ false = sym (foreign_is y) ∙ ap is_foreign_grade (sym e) in cc
    from k l s t e = cc

-- what a token of a directive is in code
abbrev aside_code : Aside → Kind
aside_code (aside.Word word) = kind.Word word
aside_code aside.Name = kind.Name
aside_code (aside.Number value) = kind.Number value
aside_code (aside.Sign sign) = kind.Sign sign
aside_code a = kind.End

-- a plain word, number or sign has this grade
abbrev is_plain_grade : CGrade → Bool
is_plain_grade c_short_word = true
is_plain_grade c_good_number = true
is_plain_grade c_sign = true
is_plain_grade g = false

foreign_no_plain : (sort : Foreign) → is_plain_grade (foreign_grade sort) ≡ false
foreign_no_plain foreign.Byte = refl
foreign_no_plain _ = refl

-- what is foreign in a directive is no plain word, number or sign
foreign_aside_graded : (bytes : List ℕ) → IsForeignAside bytes → is_plain_grade (c_grade bytes) ≡ false
foreign_aside_graded bytes (foreign_outside sort t) = ap is_plain_grade (foreign_graded sort bytes t) ∙ foreign_no_plain sort
foreign_aside_graded bytes (nothing_outside t) = ap is_plain_grade (no_token_graded bytes t)

plain_or_foreign : (k : Kind) (bytes : List ℕ) → IsOfCode (Some k) bytes → is_plain_grade (code_grade (Some k)) ≡ true
    → IsForeignAside bytes → ⊥
plain_or_foreign k bytes t plain foreign =
    let none : true ≡ false = sym plain ∙ (ap is_plain_grade (sym (code_graded (Some k) bytes t)) ∙ foreign_aside_graded bytes foreign) in
    absurd (cc)

-- the same bytes are one token of a directive, besides its `#`
aside_one : (a b : Aside) (bytes : List ℕ) → (a ≡ aside.Hash → ⊥) → (b ≡ aside.Hash → ⊥) → IsAside a bytes → IsAside b bytes → a ≡ b
aside_one aside.Hash b bytes o p s t = absurd (o refl)
aside_one a aside.Hash bytes o p s t = absurd (p refl)
aside_one aside.Foreign aside.Foreign bytes o p s t = refl
aside_one (aside.Word w) (aside.Word v) bytes o p s t = ap aside.Word (one_word w v bytes s t)
aside_one (aside.Number x) (aside.Number y) bytes o p s t = ap aside.Number (s.value_is ∙ sym t.value_is)
aside_one (aside.Sign x) (aside.Sign y) bytes o p s t = ap aside.Sign (one_sign x y bytes s t)
aside_one aside.Foreign b bytes o p s t = absurd (plain_or_foreign (aside_code b) bytes (refl, t) refl s)
aside_one a aside.Foreign bytes o p s t = absurd (plain_or_foreign (aside_code a) bytes (refl, s) refl t)
aside_one a b bytes o p s t = let same : aside_code a ≡ aside_code b = code_one (aside_code a) (aside_code b) bytes (refl, s)
    (refl, t) in cc

-- what begins a directive is no token of code
hash_no_code : (k : Kind) (bytes : List ℕ) → IsOfCode (Some k) bytes → 35 ∷ [] ≡ bytes → ⊥
hash_no_code k bytes t e = no_kind k bytes t (stray 35 refl e)

-- a `#` begins a directive where nothing but blanks stands before it, and other tokens of one stand within
hash_or_within : (before : Before) → is_blanks before ≡ true → not (is_outside before) ≡ true → ⊥
hash_or_within Blanks h o = cc
hash_or_within Others h o = cc
hash_or_within Directive h o = cc

code_or_within : (before : Before) → is_outside before ≡ true → not (is_outside before) ≡ true → ⊥
code_or_within Blanks h o = cc
code_or_within Others h o = cc
code_or_within Directive h o = cc

aside_kind_one : (before : Before) (a b : Aside) (bytes : List ℕ) → may_stand C before (kind.Aside a) ≡ true
    → may_stand C before (kind.Aside b) ≡ true → IsAside a bytes → IsAside b bytes → a ≡ b
aside_kind_one before aside.Hash aside.Hash bytes m n s t = refl
aside_kind_one before aside.Hash b bytes m n s t = absurd (hash_or_within before m n)
aside_kind_one before a aside.Hash bytes m n s t = absurd (hash_or_within before n m)
aside_kind_one before a b bytes m n s t = aside_one a b bytes (λ e. cc) (λ e. cc) s t

aside_or_code : (before : Before) (a : Aside) (k : Kind) (bytes : List ℕ) → may_stand C before (kind.Aside a) ≡ true
    → is_outside before ≡ true → IsAside a bytes → IsOfCode (Some k) bytes → ⊥
aside_or_code before aside.Hash k bytes m out s t = hash_no_code k bytes t s
aside_or_code before a k bytes m out s t = code_or_within before out m

-- where the same bytes may stand as tokens of C, they are of one kind
pub c_one_kind : (before : Before) (k l : Kind) (bytes : List ℕ) → may_stand C before k ≡ true → may_stand C before l ≡ true
    → IsToken k bytes → IsToken l bytes → k ≡ l
c_one_kind before (kind.Aside a) (kind.Aside b) bytes m n s t = ap kind.Aside (aside_kind_one before a b bytes m n s t)
c_one_kind before (kind.Aside a) l bytes m n s t = absurd (aside_or_code before a l bytes m n s (refl, t))
c_one_kind before k (kind.Aside b) bytes m n s t = absurd (aside_or_code before b k bytes n m t (refl, s))
c_one_kind before k l bytes m n s t = code_one k l bytes (refl, s) (refl, t)
