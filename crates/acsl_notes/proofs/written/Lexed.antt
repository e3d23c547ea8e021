-- Bytes that read as tokens wherever they stand.
use Rattle.std.proofs.Common.{◌≡◌, ◌≤◌, ◌<◌, ◌+◌, ◌-◌, ◌%◌, ◌^◌, ◌||◌, ℕ, zero, suc, pos, Bool, true, false, eqb, List, [], ◌∷◌, ◌++◌}
use Rattle.std.proofs.Common.{length, take, refl, sym, ap, ap₂, ◌∙◌, subst, arith}
use Rattle.std.specs.Prelude.{◌==◌, decimal, nat_le, get_or}
use Rattle.std.specs.List.{slice_range, list_all}
use Rattle.std.proofs.lemmas.Bool.{and_parts, and_from, le-leb, eqb-true}
use Rattle.std.proofs.lemmas.List.{append_assoc, append-nil, length-append, map-append, take_at, drop_at}
use Rattle.std.proofs.lemmas.Fmt.{decimal_is_IsNumeral, decimal_by_steps, decimal_digit, first_decimal}
use Rattle.lang_tokens.specs.declared.lexicon.Lexicon.TheVariants.{Own}
use Rattle.lang_tokens.specs.declared.token.Kind.{Kind}
use Rattle.lang_tokens.specs.declared.token.Kind.TheVariants as kind
use Rattle.lang_tokens.specs.declared.sign.Sign.{Sign}
use Rattle.lang_tokens.specs.declared.sign.Sign.TheVariants.{LeftParen}
use Rattle.lang_tokens.specs.Bytes.{is_letter, is_digit, is_word_byte}
use Rattle.lang_tokens.specs.Signs.{sign_bytes}
use Rattle.lang_tokens.specs.Lexemes.{a_word, a_sign, is_word, is_numeral, is_padded, greatest_literal, IsName}
use Rattle.lang_tokens.specs.Reading.{Piece, blank, token, spelling, AllFit, piece_tokens, piece_bytes, tokens_from, is_own}
use Rattle.lang_tokens.specs.Directives.{starts_with_letter}
use Rattle.lang_tokens.specs.Reading.{IsLongest, IsWholeToken, is_outside, behind_token, behind_all}
use Rattle.lang_tokens.specs.declared.before.Before.{Before}
use Rattle.lang_tokens.proofs.lexemes.Heads.{heads}
use Rattle.lang_tokens.proofs.lexemes.Longest.{word_starts, sign_starts}
use Rattle.lang_tokens.proofs.reading.Outside.{plain_blank, blank_outside, behind-append}
use Rattle.lang_grammar.specs.Grammar as g
use Rattle.lang_grammar.specs.View.{kind_of, sign_kind, token_of, tokens_of}
use Rattle.acsl_comments.proofs.pieces.Placed.{spelling-append, fit-append}
use Rattle.out_workload.proofs.bodies.WholeTokens.{is_second, word_passes, a_whole_sign, a_whole_number}

-- Bytes that read as these tokens at this place, where what follows doesn't begin with a byte that would go on with the last.
pub record Lexed (at : ℕ) (bytes : List ℕ) (tokens : List g.Token) (goes_on : ℕ → Bool) : Type 0 where
  -- what they are made of
  pub pieces : List Piece
  -- the pieces are the bytes
  pub spelled : spelling pieces ≡ bytes
  -- they are pieces where no directive goes on before them, and nothing follows that goes on
  pub fit : (before : Before) → is_outside before ≡ true → (rest : List ℕ) → heads goes_on rest ≡ false → AllFit Own before pieces rest
  -- no directive goes on behind them, where none does before them
  pub outside : (before : Before) → is_outside before ≡ true → is_outside (behind_all before pieces) ≡ true
  -- their tokens in a text where they stand at the place
  pub told : (text front after : List ℕ) → front ++ (bytes ++ after) ≡ text → length front ≡ at
      → tokens_of text (tokens_from at pieces) ≡ tokens

-- the tokens of pieces and of those behind them
tokens-append : (at : ℕ) (pieces more : List Piece) → tokens_from at (pieces ++ more)
    ≡ tokens_from at pieces ++ tokens_from (at + length (spelling pieces)) more
tokens-append at [] more = let none : at + 0 ≡ at = omega arith in rw none refl
tokens-append at (piece ∷ pieces) more =
    let bytes = piece_bytes piece in
    let next : at + length bytes + length (spelling pieces) ≡ at + length (bytes ++ spelling pieces) =
    omega (arith, length-append bytes (spelling pieces)) in
    let rest = tokens-append (at + length bytes) pieces more in
    ap (λ ts. piece_tokens at piece ++ ts) (rw next at rest)
    ∙ sym (append_assoc (piece_tokens at piece) (tokens_from (at + length bytes) pieces)
    (tokens_from (at + length (bytes ++ spelling pieces)) more))

-- bytes that read, and bytes behind them that read
pub beside : {at : ℕ} {bytes more : List ℕ} {tokens others : List g.Token} {p q : ℕ → Bool} → Lexed at bytes tokens p
    → Lexed (at + length bytes) more others q
    → ((rest : List ℕ) → heads q rest ≡ false → heads p (more ++ rest) ≡ false) → Lexed at (bytes ++ more) (tokens ++ others) q
beside {at} {bytes} {more} {tokens} {others} {p} {q} a b apart = record {
  pieces = a.pieces ++ b.pieces;
  spelled = spelling-append a.pieces b.pieces ∙ ap₂ (λ (x y : List ℕ). x ++ y) a.spelled b.spelled;
  fit = λ before out rest none. fit-append Own before a.pieces b.pieces rest
      (a.fit before out (spelling b.pieces ++ rest) (ap (λ (x : List ℕ). heads p (x ++ rest)) b.spelled ∙ apart rest none))
      (b.fit (behind_all before a.pieces) (a.outside before out) rest none);
  outside = λ before out. ap is_outside (behind-append before a.pieces b.pieces)
      ∙ b.outside (behind_all before a.pieces) (a.outside before out);
  told = both;
}
  where
    both : (text front after : List ℕ) → front ++ ((bytes ++ more) ++ after) ≡ text → length front ≡ at
        → tokens_of text (tokens_from at (a.pieces ++ b.pieces)) ≡ tokens ++ others
    both text front after e f =
        let one : front ++ (bytes ++ (more ++ after)) ≡ text =
        ap (λ (x : List ℕ). front ++ x) (sym (append_assoc bytes more after)) ∙ e in
        let two : (front ++ bytes) ++ (more ++ after) ≡ text = append_assoc front bytes (more ++ after) ∙ one in
        let size : length (front ++ bytes) ≡ at + length bytes = omega (arith, length-append front bytes) in
        ap (tokens_of text) (tokens-append at a.pieces b.pieces)
        ∙ map-append (token_of text) (tokens_from at a.pieces) (tokens_from (at + length (spelling a.pieces)) b.pieces)
        ∙ ap₂ (λ (x y : List g.Token). x ++ y) (a.told text front (more ++ after) one f)
        (ap (λ (x : List ℕ). tokens_of text (tokens_from (at + length x) b.pieces)) a.spelled
        ∙ b.told text (front ++ bytes) after two size)

range_is : (front bytes after : List ℕ) (at end : ℕ) → length front ≡ at → at + length bytes ≡ end
    → slice_range (front ++ (bytes ++ after)) at end ≡ bytes
range_is front bytes after at end e f = let size : length bytes ≡ end - at = omega (arith, f) in
    ap (take (end - at)) (drop_at front (bytes ++ after) at e) ∙ take_at bytes after (end - at) size

-- no directive goes on behind a token of the tool's own formats
own_outside : (k : Kind) → is_own k ≡ true → is_outside (behind_token k) ≡ true
own_outside (kind.Aside sort) h = cc
own_outside _ h = refl

-- one token
one : (at : ℕ) (k : Kind) (bytes : List ℕ) (p : ℕ → Bool) → is_own k ≡ true → ((rest : List ℕ) → heads p rest ≡ false
    → IsWholeToken Own k bytes rest)
    → Lexed at bytes (g.token (kind_of bytes k) at ∷ []) p
one at k bytes p own whole = record {
  pieces = token k bytes ∷ [];
  spelled = append-nil bytes;
  fit = λ before out rest none. ((and_from (is_outside before) (is_own k) out own, whole rest none), tt);
  outside = λ before out. own_outside k own;
  told = λ text front after e f. ap (λ (x : List ℕ). g.token (kind_of x k) at ∷ [])
      (ap (λ (t : List ℕ). slice_range t at (at + length bytes)) (sym e) ∙ range_is front bytes after at (at + length bytes) f refl);
}

-- what goes on with a blank: nothing does
abbrev pub nothing : ℕ → Bool
nothing b = false

-- nothing goes on with a blank
pub nothing_heads : (rest : List ℕ) → heads nothing rest ≡ false
nothing_heads [] = refl
nothing_heads (b ∷ bs) = refl

-- a space
pub a_space : (at : ℕ) → Lexed at (32 ∷ []) [] nothing
a_space at = record {
  pieces = blank 32 ∷ [];
  spelled = refl;
  fit = λ before out rest none. (plain_blank Own before 32 rest out refl, tt);
  outside = λ before out. blank_outside before 32 out refl;
  told = λ text front after e f. refl;
}

-- a sign
pub a_mark : (at : ℕ) (s : Sign) → Lexed at (sign_bytes s) (g.token (sign_kind s) at ∷ []) is_second
a_mark at s = one at (kind.Sign s) (sign_bytes s) is_second refl (λ rest none. a_whole_sign s rest none)

-- the sign that begins with `(` has no other byte
single : (s : Sign) → heads (λ b. eqb b 40) (sign_bytes s) ≡ true → length (sign_bytes s) ≤ 1
single LeftParen h = omega arith
single _ h = cc

paren_longest : (rest : List ℕ) → IsLongest Own (40 ∷ []) rest
paren_longest rest = record {
  lexeme = a_sign LeftParen refl;
  longest = λ other after e lexeme. let found = sign_starts other after rest 40 e lexeme refl refl in
      by found.0 other after found.1 e;
}
  where
    by : (s : Sign) (other after : List ℕ) → sign_bytes s ≡ other → other ++ after ≡ 40 ∷ rest → length other ≤ 1
    by s [] after found e = omega arith
    by s (o ∷ other) after found e =
        let same : o ≡ 40 = cc in
        let head : eqb o 40 ≡ true = rw same refl in
        subst (λ (bs : List ℕ). length bs ≤ 1) found (single s (ap (heads (λ b. eqb b 40)) found ∙ head))

-- `(`, whatever follows
pub an_opening : (at : ℕ) → Lexed at (40 ∷ []) (g.token g.left_paren at ∷ []) nothing
an_opening at = one at (kind.Sign LeftParen) (40 ∷ []) nothing refl
    (λ rest none. record { is_token = refl; longest = paren_longest rest; apart = tt })

-- a front of bytes of words is within a word that no byte of a word follows
front_short : (bytes rest other after : List ℕ) → heads is_word_byte rest ≡ false → list_all is_word_byte other ≡ true
    → other ++ after ≡ bytes ++ rest → length other ≤ length bytes
front_short bytes rest [] after h k e = omega arith
front_short [] [] (o ∷ other) after h k e = cc
front_short [] (r ∷ rest) (o ∷ other) after h k e = let same : o ≡ r = cc in
    let yes : is_word_byte o ≡ true = (and_parts (is_word_byte o) (list_all is_word_byte other) k).0 in
    let no : is_word_byte o ≡ false = ap is_word_byte same ∙ h in cc
front_short (b ∷ bytes) rest (o ∷ other) after h k e = let less = front_short bytes rest other after h
    (and_parts (is_word_byte o) (list_all is_word_byte other) k).1 (cc) in omega arith

word_whole : (bytes rest : List ℕ) → is_word bytes ≡ true → heads is_word_byte rest ≡ false → IsLongest Own bytes rest
word_whole [] rest w h = cc
word_whole (b ∷ bs) rest w h = record {
  lexeme = a_word w;
  longest = λ other after e lexeme. front_short (b ∷ bs) rest other after h
      (word_passes other (word_starts other after (bs ++ rest) b e lexeme (and_parts (is_letter b) (list_all is_word_byte bs) w).0)) e;
}

-- a name
pub a_word_of : (at : ℕ) (name : List ℕ) → IsName name → Lexed at name (g.token (g.a_name name) at ∷ []) is_word_byte
a_word_of at name n = one at kind.Name name is_word_byte refl
    (λ rest none. record { is_token = n; longest = word_whole name rest n.word none; apart = tt })

-- ---- numbers
no_word_byte : (rest : List ℕ) → heads is_word_byte rest ≡ false → (heads is_digit rest ≡ false) × (starts_with_letter rest ≡ false)
no_word_byte [] h = (refl, refl)
no_word_byte (b ∷ bs) h = neither (is_letter b) (is_digit b) h
  where
    neither : (x y : Bool) → (x || y) ≡ false → (y ≡ false) × (x ≡ false)
    neither false false e = (refl, refl)
    neither true y e = cc
    neither false true e = cc

digit_is : (n : ℕ) → n < 10 → is_digit (48 + n) ≡ true
digit_is n h = and_from (nat_le 48 (48 + n)) (nat_le (48 + n) 57) (le-leb 48 (48 + n) (omega arith)) (le-leb (48 + n) 57 (omega arith))

digits_more : (bs : List ℕ) (x : ℕ) → list_all is_digit bs ≡ true → is_digit x ≡ true → list_all is_digit (bs ++ x ∷ []) ≡ true
digits_more [] x h k = and_from (is_digit x) true k refl
digits_more (b ∷ bs) x h k = let both = and_parts (is_digit b) (list_all is_digit bs) h in
    and_from (is_digit b) (list_all is_digit (bs ++ x ∷ [])) both.0 (digits_more bs x both.1 k)

numeral_more : (bs : List ℕ) (x : ℕ) → is_numeral bs ≡ true → is_digit x ≡ true → is_numeral (bs ++ x ∷ []) ≡ true
numeral_more [] x h k = cc
numeral_more (b ∷ bs) x h k = digits_more (b ∷ bs) x h k

-- a decimal text is digits
pub decimal_numeral : (n : ℕ) → n < 2 ^ 64 → is_numeral (decimal n) ≡ true
decimal_numeral n h = decimal_by_steps (λ (m : ℕ) (bs : List ℕ). is_numeral bs ≡ true)
    (λ m l. and_from (is_digit (48 + m)) true (digit_is m l) refl)
    (λ m ds l numeral. numeral_more ds (48 + m % 10) numeral (digit_is (m % 10) (omega arith))) n h

-- digits of which the first isn't 0 have none before others
not_padded : (bs : List ℕ) → 48 < get_or bs 0 0 → is_padded bs ≡ false
not_padded [] h = refl
not_padded (b ∷ []) h = refl
not_padded (b ∷ c ∷ bs) h = other (b == 48) refl
  where
    other : (t : Bool) → (b == 48) ≡ t → t ≡ false
    other true e = let same : b ≡ 48 = eqb-true b 48 e in absurd (omega (arith, h, same))
    other false e = refl

decimal_plain : (n : ℕ) → n < 2 ^ 64 → is_padded (decimal n) ≡ false
decimal_plain zero h = ap is_padded (decimal_digit 0 (omega arith))
decimal_plain (suc n) h = not_padded (decimal (suc n)) (first_decimal (suc n) (omega arith) h)

-- a number of the language
pub a_number_of : (at n : ℕ) → n ≤ greatest_literal → Lexed at (decimal n) (g.token (g.a_number n) at ∷ []) is_word_byte
a_number_of at n h =
    let small : n < 2 ^ 64 = omega arith in
    one at (kind.Number (pos n)) (decimal n) is_word_byte refl (λ rest none. let apart = no_word_byte rest none in
    a_whole_number n (decimal n) rest (decimal_numeral n small) (decimal_plain n small) (decimal_is_IsNumeral n small).1 h
    apart.0 apart.1)
