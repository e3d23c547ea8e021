-- What stands before a place in its line, by the bytes before it.
use Rattle.std.proofs.Common.{◌≡◌, ℕ, Bool, true, false, not, ◌||◌, ◌&&◌, cond, eqb, ⊎_elim, List, [], ◌∷◌, ◌++◌, take, refl, sym, ap}
use Rattle.std.proofs.Common.{◌∙◌, subst, arith}
use Rattle.std.proofs.lemmas.List.{take_at}
use Rattle.std.proofs.lemmas.Bool.{cases_Bool, and_parts, or_cases, or_left, false_from_ne_true, leb-true, eqb-true, not-true}
use Rattle.std.specs.List.{list_all}
use Rattle.lang_tokens.specs.declared.lexicon.Lexicon.{Lexicon}
use Rattle.lang_tokens.specs.declared.lexicon.Lexicon.TheVariants.{Own, C}
use Rattle.lang_tokens.specs.declared.foreign.ForeignSign.{ForeignSign}
use Rattle.lang_tokens.specs.declared.foreign.ForeignSign.TheVariants.{Dot}
use Rattle.lang_tokens.specs.declared.token.Foreign.{Foreign}
use Rattle.lang_tokens.specs.declared.token.Foreign.TheVariants as foreign
use Rattle.lang_tokens.specs.declared.token.Aside.{Aside}
use Rattle.lang_tokens.specs.declared.token.Aside.TheVariants as aside
use Rattle.lang_tokens.specs.declared.token.Kind.{Kind}
use Rattle.lang_tokens.specs.declared.token.Kind.TheVariants as kind
use Rattle.lang_tokens.specs.Bytes.{is_blank, is_line_blank, is_on_line, is_letter, is_digit, is_word_byte, is_exponent}
use Rattle.lang_tokens.specs.Bytes.{is_quote, is_stray}
use Rattle.lang_tokens.specs.Directives.{is_directive}
use Rattle.lang_tokens.specs.Lines.{stays_blank}
use Rattle.lang_tokens.specs.LineLaw.{LinesAreBytes}
use Rattle.lang_tokens.specs.Signs.{sign_bytes, foreign_bytes}
use Rattle.lang_tokens.specs.Words.{word_bytes}
use Rattle.lang_tokens.specs.declared.word.Word.{Word}
use Rattle.lang_tokens.specs.Lexemes.{is_word, is_numeral, is_any_number, goes_on, all_go_on, IsForeign}
use Rattle.lang_tokens.specs.Lexemes.{starts_number}
use Rattle.lang_tokens.specs.Lexemes.{IsAside, IsToken, literal, foreign_sign, foreign_outside, nothing_outside, second_spelling, stray}
use Rattle.lang_tokens.specs.declared.before.Before.{Before}
use Rattle.lang_tokens.specs.declared.before.Before.TheVariants.{Blanks, Others, Directive}
use Rattle.lang_tokens.specs.declared.sign.Sign.{Sign}
use Rattle.lang_tokens.specs.declared.sign.Sign.TheVariants.{LeftParen}
use Rattle.lang_tokens.specs.Reading.{Piece, blank, line_comment, block_comment, token, piece_bytes, spelling, is_blank_at, behind_blank}
use Rattle.lang_tokens.specs.Reading.{is_blanks, is_outside, is_own, may_stand, behind_token}
use Rattle.lang_tokens.specs.Steps.{is_of_code}
use Rattle.lang_tokens.proofs.quoted.Parts.{is_nothing, closes, is_quoted, quoted_test}
use Rattle.lang_tokens.proofs.lexemes.Heads.{leads_number, number_heads, word_spelled}
use Rattle.lang_tokens.specs.Reading.{behind_comment, behind, behind_all, Fits, AllFit}

and_false : (t : Bool) → (t && false) ≡ false
and_false true = refl
and_false false = refl

-- bytes behind bytes
stays_append : (t : Bool) (xs ys : List ℕ) → stays_blank t (xs ++ ys) ≡ stays_blank (stays_blank t xs) ys
stays_append t [] ys = refl
stays_append t (x ∷ xs) ys = stays_append ((eqb x 10) || (t && is_line_blank x)) xs ys

-- a byte that is no blank
stays_plain : (t : Bool) (b : ℕ) (bs : List ℕ) → eqb b 10 ≡ false → is_line_blank b ≡ false → stays_blank t (b ∷ bs) ≡ stays_blank false bs
stays_plain t b bs no_feed no_blank = rw (no_feed, no_blank, and_false t) refl

-- behind such a byte, bytes that are no line feeds
stays_no : (p : ℕ → Bool) → ((b : ℕ) → p b ≡ true → eqb b 10 ≡ false) → (bytes : List ℕ) → list_all p bytes ≡ true
    → stays_blank false bytes ≡ false
stays_no p no_feed [] all = refl
stays_no p no_feed (b ∷ bytes) all =
    let parts = and_parts (p b) (list_all p bytes) all in
    rw (no_feed b parts.0) (stays_no p no_feed bytes parts.1)

on_line_no_feed : (b : ℕ) → is_on_line b ≡ true → eqb b 10 ≡ false
on_line_no_feed b h = not-true (eqb b 10) h

letter_feed : (b : ℕ) → is_letter b ≡ true → eqb b 10 ≡ true → ⊥
letter_feed b l k = grind (arith, leb-true, eqb-true)

digit_feed : (b : ℕ) → is_digit b ≡ true → eqb b 10 ≡ true → ⊥
digit_feed b l k = grind (arith, leb-true, eqb-true)

letter_blank : (b : ℕ) → is_letter b ≡ true → is_line_blank b ≡ true → ⊥
letter_blank b l k = grind (arith, leb-true, eqb-true)

digit_blank : (b : ℕ) → is_digit b ≡ true → is_line_blank b ≡ true → ⊥
digit_blank b l k = grind (arith, leb-true, eqb-true)

digit_no_feed : (b : ℕ) → is_digit b ≡ true → eqb b 10 ≡ false
digit_no_feed b h = false_from_ne_true (eqb b 10) (digit_feed b h)

letter_no_feed : (b : ℕ) → is_letter b ≡ true → eqb b 10 ≡ false
letter_no_feed b h = false_from_ne_true (eqb b 10) (letter_feed b h)

word_no_feed : (b : ℕ) → is_word_byte b ≡ true → eqb b 10 ≡ false
word_no_feed b h = ⊎_elim (letter_no_feed b) (digit_no_feed b) (or_cases (is_letter b) (is_digit b) h)

stays_sign : (t : Bool) (sign : Sign) → stays_blank t (sign_bytes sign) ≡ false
stays_sign true LeftParen = refl
stays_sign true _ = refl
stays_sign false LeftParen = refl
stays_sign false _ = refl

stays_foreign_sign : (t : Bool) (sign : ForeignSign) → stays_blank t (foreign_bytes sign) ≡ false
stays_foreign_sign true Dot = refl
stays_foreign_sign true _ = refl
stays_foreign_sign false Dot = refl
stays_foreign_sign false _ = refl

stays_word : (t : Bool) (bytes : List ℕ) → is_word bytes ≡ true → stays_blank t bytes ≡ false
stays_word t [] w = cc
stays_word t (b ∷ bytes) w =
    let parts = and_parts (is_letter b) (list_all is_word_byte bytes) w in
    stays_plain t b bytes (letter_no_feed b parts.0) (false_from_ne_true (is_line_blank b) (letter_blank b parts.0))
    ∙ stays_no is_word_byte word_no_feed bytes parts.1

stays_reserved : (t : Bool) (word : Word) (bytes : List ℕ) → word_bytes word ≡ bytes → stays_blank t bytes ≡ false
stays_reserved t word bytes e = rw (← e) (stays_word t (word_bytes word) (word_spelled word))

stays_numeral : (t : Bool) (bytes : List ℕ) → is_numeral bytes ≡ true → stays_blank t bytes ≡ false
stays_numeral t [] d = cc
stays_numeral t (b ∷ bytes) d =
    let parts = and_parts (is_digit b) (list_all is_digit bytes) d in
    stays_plain t b bytes (digit_no_feed b parts.0) (false_from_ne_true (is_line_blank b) (digit_blank b parts.0))
    ∙ stays_no is_digit digit_no_feed bytes parts.1

-- a byte that passes a test which a line feed fails is none
feedless : (p : ℕ → Bool) → p 10 ≡ false → (b : ℕ) → p b ≡ true → eqb b 10 ≡ false
feedless p fails b h = false_from_ne_true (eqb b 10) (λ is. let feed : b ≡ 10 = eqb-true b 10 is in
    let yes : p 10 ≡ true = rw feed at h in cc)

goes_no_feed : (last b : ℕ) → goes_on last b ≡ true → eqb b 10 ≡ false
goes_no_feed last b h = ⊎_elim
    (λ (low : (is_word_byte b || eqb b 46) ≡ true). feedless (λ (x : ℕ). is_word_byte x || eqb x 46) refl b low)
    (λ (high : (is_exponent last && (eqb b 43 || eqb b 45)) ≡ true). feedless (λ (x : ℕ). eqb x 43 || eqb x 45) refl b
    (and_parts (is_exponent last) (eqb b 43 || eqb b 45) high).1)
    (or_cases (is_word_byte b || eqb b 46) (is_exponent last && (eqb b 43 || eqb b 45)) h)

stays_going : (last : ℕ) (bytes : List ℕ) → all_go_on last bytes ≡ true → stays_blank false bytes ≡ false
stays_going last [] h = refl
stays_going last (b ∷ bytes) h =
    let parts = and_parts (goes_on last b) (all_go_on b bytes) h in
    rw (goes_no_feed last b parts.0) (stays_going b bytes parts.1)

lead_blank : (b : ℕ) → leads_number b ≡ true → is_line_blank b ≡ true → ⊥
lead_blank b l k = grind (arith, leb-true, eqb-true)

stays_number : (t : Bool) (bytes : List ℕ) → is_any_number bytes ≡ true → stays_blank t bytes ≡ false
stays_number t [] n = cc
stays_number t (b ∷ bytes) n =
    let first : leads_number b ≡ true = number_heads (b ∷ bytes) n in
    stays_plain t b bytes (feedless leads_number refl b first) (false_from_ne_true (is_line_blank b) (lead_blank b first))
    ∙ stays_going b bytes (and_parts (starts_number (b ∷ bytes)) (all_go_on b bytes) n).1

stays_closing : (quote : ℕ) (passes : Bool) (bytes : List ℕ) → closes quote passes bytes ≡ true → stays_blank false bytes ≡ false
stays_closing quote passes [] h = refl
stays_closing quote true (b ∷ bytes) h =
    let parts = and_parts (is_on_line b) (closes quote false bytes) h in
    rw (on_line_no_feed b parts.0) (stays_closing quote false bytes parts.1)
stays_closing quote false (b ∷ bytes) h =
    let parts = and_parts (is_on_line b) (cond (eqb b quote) (is_nothing bytes) (closes quote (eqb b 92) bytes)) h in
    rw (on_line_no_feed b parts.0) (rest (eqb b quote) (stays_closing quote (eqb b 92) bytes) parts.1)
  where
    nothing_stays : (bytes : List ℕ) → is_nothing bytes ≡ true → stays_blank false bytes ≡ false
    nothing_stays [] h = refl
    nothing_stays (b ∷ bytes) h = cc

    rest : (t : Bool) → (closes quote (eqb b 92) bytes ≡ true → stays_blank false bytes ≡ false)
        → cond t (is_nothing bytes) (closes quote (eqb b 92) bytes) ≡ true → stays_blank false bytes ≡ false
    rest true more h = nothing_stays bytes h
    rest false more h = more h

stays_quoted : (t : Bool) (bytes : List ℕ) → is_quoted bytes ≡ true → stays_blank t bytes ≡ false
stays_quoted t [] q = cc
stays_quoted t (b ∷ bytes) q =
    let parts = and_parts (is_quote b) (closes b false bytes) q in
    stays_plain t b bytes (feedless is_quote refl b parts.0) (false_from_ne_true (is_line_blank b) (quote_blank b parts.0))
    ∙ stays_closing b false bytes parts.1
  where
    quote_blank : (b : ℕ) → is_quote b ≡ true → is_line_blank b ≡ true → ⊥
    quote_blank b q k = grind (arith, eqb-true)

stays_foreign : (t : Bool) (sort : Foreign) (bytes : List ℕ) → IsForeign sort bytes → stays_blank t bytes ≡ false
stays_foreign t foreign.Byte bytes (literal q) = stays_quoted t bytes (quoted_test bytes q)
stays_foreign t foreign.Byte bytes (foreign_sign sign first e) = rw (← e) (stays_foreign_sign t sign)
stays_foreign t foreign.Number bytes f = stays_number t bytes (and_parts _ _ f).0
stays_foreign t foreign.LongNumber bytes f = stays_numeral t bytes f.digits
stays_foreign t foreign.LongName bytes f = stays_word t bytes f.word

-- within a directive any token of it is no blanks
stays_within : (sort : Aside) (bytes : List ℕ) → IsAside sort bytes → stays_blank false bytes ≡ false
stays_within aside.Hash bytes f = rw (← f) refl
stays_within (aside.Word word) bytes f = stays_reserved false word bytes f
stays_within aside.Name bytes f = stays_word false bytes f.word
stays_within (aside.Number value) bytes f = stays_numeral false bytes f.digits
stays_within (aside.Sign sign) bytes f = rw (← f) (stays_sign false sign)
stays_within aside.Foreign bytes (foreign_outside sort f) = stays_foreign false sort bytes f
stays_within aside.Foreign bytes (nothing_outside (second_spelling sign second e)) = rw (← e) (stays_foreign_sign false sign)
stays_within aside.Foreign bytes (nothing_outside (stray b s e)) = rw (← e) (rw (feedless is_stray refl b s) refl)

-- a token of code is no blanks
stays_code : (t : Bool) (k : Kind) (bytes : List ℕ) → is_of_code k ≡ true → IsToken k bytes → stays_blank t bytes ≡ false
stays_code t (kind.Word word) bytes code f = stays_reserved t word bytes f
stays_code t kind.Name bytes code f = stays_word t bytes f.word
stays_code t (kind.Number value) bytes code f = stays_numeral t bytes f.digits
stays_code t (kind.Sign sign) bytes code f = rw (← f) (stays_sign t sign)
stays_code t (kind.Foreign sort) bytes code f = stays_foreign t sort bytes f
stays_code t (kind.Aside sort) bytes code f = cc
stays_code t kind.End bytes code f = absurd f

within_no_blanks : (before : Before) → not (is_outside before) ≡ true → is_blanks before ≡ false
within_no_blanks Blanks h = cc
within_no_blanks Others h = cc
within_no_blanks Directive h = refl

stays_c : (before : Before) (k : Kind) (bytes : List ℕ) → may_stand C before k ≡ true → IsToken k bytes
    → stays_blank (is_blanks before) bytes ≡ is_blanks (behind_token k)
stays_c before (kind.Aside aside.Hash) bytes may f = rw (← f) (and_false (is_blanks before))
stays_c before (kind.Aside sort) bytes may f = rw (within_no_blanks before may) (stays_within sort bytes f)
stays_c before k bytes may f = stays_code (is_blanks before) k bytes refl f

stays_own : (before : Before) (k : Kind) (bytes : List ℕ) → is_own k ≡ true → IsToken k bytes
    → stays_blank (is_blanks before) bytes ≡ is_blanks (behind_token k)
stays_own before (kind.Aside sort) bytes own f = cc
stays_own before k bytes own f = stays_code (is_blanks before) k bytes refl f

-- behind a token
stays_token : (lexicon : Lexicon) (before : Before) (k : Kind) (bytes : List ℕ) → may_stand lexicon before k ≡ true → IsToken k bytes
    → stays_blank (is_blanks before) bytes ≡ is_blanks (behind_token k)
stays_token Own before k bytes may f = stays_own before k bytes (and_parts (is_outside before) (is_own k) may).1 f
stays_token C before k bytes may f = stays_c before k bytes may f

-- a comment is no blanks
stays_block : (t : Bool) (body : List ℕ) → stays_blank t (body ++ 42 ∷ 47 ∷ []) ≡ false
stays_block t body = stays_append t body (42 ∷ 47 ∷ []) ∙ (stays_plain (stays_blank t body) 42 (47 ∷ []) refl refl
    ∙ stays_plain false 47 [] refl refl)

comment_no_blanks : (before : Before) → is_blanks (behind_comment before) ≡ false
comment_no_blanks Blanks = refl
comment_no_blanks Others = refl
comment_no_blanks Directive = refl

-- a blank byte but a line feed is a blank of a line
line_blank : (b : ℕ) → is_blank b ≡ true → eqb b 10 ≡ false → is_line_blank b ≡ true
line_blank b is no_feed = ⊎_elim
    (λ (low : (eqb b 32 || eqb b 9 || eqb b 13) ≡ true).
    or_left (eqb b 32 || eqb b 9 || eqb b 13 || eqb b 12) (eqb b 11) (or_left (eqb b 32 || eqb b 9 || eqb b 13) (eqb b 12) low))
    (λ (feed : eqb b 10 ≡ true). cc)
    (or_cases (eqb b 32 || eqb b 9 || eqb b 13) (eqb b 10) is)

-- what is no `#` and no line feed leaves blanks as they are
plain_stays : (lexicon : Lexicon) (before : Before) (b : ℕ) (rest : List ℕ) → is_blank_at lexicon before (b ∷ rest) ≡ true
    → eqb b 10 ≡ false → eqb b 35 ≡ false → (is_blanks before && is_line_blank b) ≡ is_blanks before
plain_stays lexicon Others b rest is no_feed no_hash = refl
plain_stays lexicon Directive b rest is no_feed no_hash = refl
plain_stays Own Blanks b rest is no_feed no_hash = ⊎_elim
    (λ (plain : is_blank b ≡ true). line_blank b plain no_feed)
    (λ (hash : is_directive Own (b ∷ rest) ≡ true). let yes : eqb b 35 ≡ true = (and_parts (eqb b 35) _ hash).0 in cc)
    (or_cases (is_blank b) (is_directive Own (b ∷ rest)) is)
plain_stays C Blanks b rest is no_feed no_hash = line_blank b is no_feed

stays_byte : (lexicon : Lexicon) (before : Before) (b : ℕ) (rest : List ℕ) → is_blank_at lexicon before (b ∷ rest) ≡ true
    → ((eqb b 10) || (is_blanks before && is_line_blank b)) ≡ is_blanks (behind_blank before b)
stays_byte lexicon before b rest is = ⊎_elim
    (λ (feed : eqb b 10 ≡ true). rw feed refl)
    (λ (no_feed : eqb b 10 ≡ false). ⊎_elim
    (λ (hash : eqb b 35 ≡ true). rw (eqb-true b 35 hash) (and_false (is_blanks before)))
    (λ (no_hash : eqb b 35 ≡ false). rw (no_feed, no_hash) (plain_stays lexicon before b rest is no_feed no_hash))
    (cases_Bool (eqb b 35)))
    (cases_Bool (eqb b 10))

-- behind a piece
stays_piece : (lexicon : Lexicon) (before : Before) (piece : Piece) (rest : List ℕ) → Fits lexicon before piece rest
    → stays_blank (is_blanks before) (piece_bytes piece) ≡ is_blanks (behind before piece)
stays_piece lexicon before (blank b) rest fits = stays_byte lexicon before b rest fits
stays_piece lexicon before (line_comment body) rest fits =
    stays_plain (is_blanks before) 47 (47 ∷ body) refl refl ∙ (stays_plain false 47 body refl refl
    ∙ (stays_no is_on_line on_line_no_feed body fits.0 ∙ sym (comment_no_blanks before)))
stays_piece lexicon before (block_comment body) rest fits =
    stays_plain (is_blanks before) 47 (42 ∷ (body ++ 42 ∷ 47 ∷ [])) refl refl
    ∙ (stays_plain false 42 (body ++ 42 ∷ 47 ∷ []) refl refl ∙ (stays_block false body ∙ sym (comment_no_blanks before)))
stays_piece lexicon before (token kind bytes) rest fits = stays_token lexicon before kind bytes fits.0 fits.1.is_token

-- behind pieces
stays_pieces : (lexicon : Lexicon) (before : Before) (pieces : List Piece) (rest : List ℕ) → AllFit lexicon before pieces rest
    → stays_blank (is_blanks before) (spelling pieces) ≡ is_blanks (behind_all before pieces)
stays_pieces lexicon before [] rest fit = refl
stays_pieces lexicon before (piece ∷ pieces) rest fit =
    stays_append (is_blanks before) (piece_bytes piece) (spelling pieces)
    ∙ (ap (λ (t : Bool). stays_blank t (spelling pieces)) (stays_piece lexicon before piece (spelling pieces ++ rest) fit.0)
    ∙ stays_pieces lexicon (behind before piece) pieces rest fit.1)

blanks_are : (before : Before) → is_blanks before ≡ true → before ≡ Blanks
blanks_are Blanks h = refl
blanks_are Others h = cc
blanks_are Directive h = cc

-- what stands before a place in its line is told by the bytes before it
pub lines_are_bytes : LinesAreBytes
lines_are_bytes lexicon text at tokens rest reads = (
  λ is. told ∙ ap is_blanks is,
  λ blank. blanks_are (behind_all Blanks reads.pieces) (sym told ∙ blank),
)
  where
    front : take at text ≡ spelling reads.pieces
    front = subst (λ (t : List ℕ). take at t ≡ spelling reads.pieces) reads.spelled (take_at (spelling reads.pieces) rest at reads.place)

    told : stays_blank true (take at text) ≡ is_blanks (behind_all Blanks reads.pieces)
    told = ap (stays_blank true) front ∙ stays_pieces lexicon Blanks reads.pieces rest reads.fit
