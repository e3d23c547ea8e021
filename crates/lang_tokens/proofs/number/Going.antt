-- How far a number of C goes on.
use Rattle.std.proofs.Common.{◌≡◌, ◌≤◌, ◌+◌, ℕ, zero, suc, true, false, ◌||◌, ◌&&◌, eqb, ⊎_elim, List, [], ◌∷◌, ◌++◌, length, take}
use Rattle.std.proofs.Common.{drop, get_or, ◌-◌, refl, ap, ◌∙◌, arith, Some}
use Rattle.std.proofs.lemmas.Bool.{and_parts, and_from, or_cases, or_left, or_right, cases_Bool, eqb-true}
use Rattle.std.proofs.lemmas.List.{take-append-drop, length-take-le, take_rest}
use Rattle.lang_tokens.specs.declared.lexicon.Lexicon.TheVariants.{C}
use Rattle.lang_tokens.specs.declared.foreign.ForeignSign.{ForeignSign}
use Rattle.lang_tokens.specs.declared.foreign.ForeignSign.TheVariants.{Dot, Ellipsis, ShiftLeftAssign, ShiftRightAssign}
use Rattle.lang_tokens.specs.declared.token.Kind.{Kind}
use Rattle.lang_tokens.specs.Bytes.{is_digit}
use Rattle.lang_tokens.specs.Directives.{starts_with_digit}
use Rattle.lang_tokens.specs.Signs.{foreign_bytes}
use Rattle.lang_tokens.specs.Lexemes.{IsLexeme, a_number, is_any_number, starts_number, goes_on, all_go_on}
use Rattle.lang_tokens.specs.Steps.{LexemeFirst, IsOfCode, going_on}
use Rattle.lang_tokens.proofs.lexemes.Led.{IsMarkLed, a_sign_led, a_foreign_led, a_number_led, c_digit_starts, c_mark_starts}
use Rattle.lang_tokens.proofs.lexemes.Numbers.{digit_goes_on}
use Rattle.lang_tokens.proofs.lexemes.Spellings.{sign_short}

-- it goes on with no more bytes than there are
pub going_within : (last : ℕ) (bs : List ℕ) → going_on last bs ≤ length bs
going_within last [] = omega arith
going_within last (b ∷ bs) = ⊎_elim
    (λ (goes : goes_on last b ≡ true). rw goes (omega (arith, going_within b bs)))
    (λ (stops : goes_on last b ≡ false). rw stops (omega arith))
    (cases_Bool (goes_on last b))

-- it goes on with each of them
pub going_all : (last : ℕ) (bs : List ℕ) → all_go_on last (take (going_on last bs) bs) ≡ true
going_all last [] = refl
going_all last (b ∷ bs) = ⊎_elim
    (λ (goes : goes_on last b ≡ true). let one : 1 + going_on b bs ≡ suc (going_on b bs) = omega arith in
    rw (goes, one) (and_from (goes_on last b) (all_go_on b (take (going_on b bs) bs)) goes (going_all b bs)))
    (λ (stops : goes_on last b ≡ false). rw stops refl)
    (cases_Bool (goes_on last b))

-- and with no more
pub going_longest : (last : ℕ) (other after bs : List ℕ) → all_go_on last other ≡ true → other ++ after ≡ bs
    → length other ≤ going_on last bs
going_longest last [] after bs h e = omega arith
going_longest last (o ∷ other) after [] h e = cc
going_longest last (o ∷ other) after (b ∷ bs) h e =
    let both = and_parts (goes_on last o) (all_go_on o other) h in
    let first : o ≡ b = cc in
    let more : other ++ after ≡ bs = cc in
    let goes : goes_on last b ≡ true = rw first at both.0 in
    let rest : length other ≤ going_on b bs = rw first at (going_longest o other after bs both.1 more) in
    rw goes (omega (arith, rest))

-- it goes on with a digit
pub going_some : (last : ℕ) (bs : List ℕ) → starts_with_digit bs ≡ true → 1 ≤ going_on last bs
going_some last [] h = cc
going_some last (b ∷ bs) h = rw (digit_goes_on last b h) (omega arith)

digit_front : (n : ℕ) (bs : List ℕ) → 1 ≤ n → starts_with_digit bs ≡ true → starts_with_digit (take n bs) ≡ true
digit_front zero bs some h = absurd (omega arith)
digit_front (suc n) [] some h = cc
digit_front (suc n) (b ∷ bs) some h = h

-- where a number starts, what it goes on with makes it one
pub going_any : (b : ℕ) (bs : List ℕ) → starts_number (b ∷ bs) ≡ true → is_any_number (b ∷ take (going_on b bs) bs) ≡ true
going_any b bs h = and_from (is_digit b || (eqb b 46 && starts_with_digit front)) (all_go_on b front) (⊎_elim
    (λ (digit : is_digit b ≡ true). or_left (is_digit b) (eqb b 46 && starts_with_digit front) digit)
    (λ (dot : (eqb b 46 && starts_with_digit bs) ≡ true). let both = and_parts (eqb b 46) (starts_with_digit bs) dot in
    or_right (is_digit b) (eqb b 46 && starts_with_digit front)
    (and_from (eqb b 46) (starts_with_digit front) both.0 (digit_front (going_on b bs) bs (going_some b bs both.1) both.1)))
    (or_cases (is_digit b) (eqb b 46 && starts_with_digit bs) h)) (going_all b bs)
  where
    front : List ℕ
    front = take (going_on b bs) bs

first_same : (x y : ℕ) (xs ys : List ℕ) → x ∷ xs ≡ y ∷ ys → x ≡ y
first_same x y xs ys e = cc

dotted : (sign : ForeignSign) (after bs : List ℕ) → foreign_bytes sign ++ after ≡ 46 ∷ bs → starts_with_digit bs ≡ true
    → length (foreign_bytes sign) ≤ 2
dotted Dot after bs e h = omega arith
dotted Ellipsis after bs e h = let more : 46 ∷ 46 ∷ after ≡ bs = cc in let none : false ≡ true = rw (← more) at h in cc
dotted ShiftLeftAssign after bs e h = absurd (omega (arith, first_same 60 46 (60 ∷ 61 ∷ after) bs e))
dotted ShiftRightAssign after bs e h = absurd (omega (arith, first_same 62 46 (62 ∷ 61 ∷ after) bs e))
dotted _ after bs e h = omega arith

any_within : (b : ℕ) (bs other after : List ℕ) → other ++ after ≡ b ∷ bs → is_any_number other ≡ true → length other ≤ 1 + going_on b bs
any_within b bs [] after e n = omega arith
any_within b bs (o ∷ other) after e n =
    let first : o ≡ b = cc in
    let more : other ++ after ≡ bs = cc in
    let rest : length other ≤ going_on o bs =
    going_longest o other after bs (and_parts (starts_number (o ∷ other)) (all_go_on o other) n).1 more in
    let here : length other ≤ going_on b bs = rw first at rest in
    omega (arith, here)

marked_within : (bs other after : List ℕ) → other ++ after ≡ 46 ∷ bs → starts_with_digit bs ≡ true → IsMarkLed (46 ∷ bs) other
    → length other ≤ 1 + going_on 46 bs
marked_within bs other after e h (a_number_led n starts) = any_within 46 bs other after e n
marked_within bs other after e h (a_sign_led sign is) =
    rw (← is) (omega (arith, sign_short sign, going_some 46 bs h))
marked_within bs other after e h (a_foreign_led sign is) =
    rw (← is) (omega (arith, dotted sign after bs (rw is e) h, going_some 46 bs h))

-- no lexeme of C that starts where a number does is longer
number_most : (b : ℕ) (bs other after : List ℕ) → starts_number (b ∷ bs) ≡ true → other ++ after ≡ b ∷ bs → IsLexeme C other
    → length other ≤ 1 + going_on b bs
number_most b bs other after starts e lexeme = ⊎_elim
    (λ (digit : is_digit b ≡ true). any_within b bs other after e (c_digit_starts other after bs b e lexeme digit))
    (λ (dot : (eqb b 46 && starts_with_digit bs) ≡ true). let both = and_parts (eqb b 46) (starts_with_digit bs) dot in
    let same : b ≡ 46 = eqb-true b 46 both.0 in
    rw same (marked_within bs other after (rw same at e) both.1
    (rw same at (c_mark_starts other after bs b e lexeme (rw same refl)))))
    (or_cases (is_digit b) (eqb b 46 && starts_with_digit bs) starts)

-- where a number starts, what it goes on with is the longest lexeme
pub number_first : (b : ℕ) (bs : List ℕ) (k : Kind) → starts_number (b ∷ bs) ≡ true → IsOfCode (Some k) (b ∷ take (going_on b bs) bs)
    → LexemeFirst (b ∷ bs) (record { kind = Some k; len = 1 + going_on b bs })
number_first b bs k starts of_code = record {
  bytes = b ∷ take (going_on b bs) bs;
  after = drop (going_on b bs) bs;
  split = ap (λ (xs : List ℕ). b ∷ xs) (take-append-drop (going_on b bs) bs);
  longest = record {
    lexeme = a_number (going_any b bs starts);
    longest = λ other after e lexeme.
        let whole : other ++ after ≡ b ∷ bs = e ∙ ap (λ (xs : List ℕ). b ∷ xs) (take-append-drop (going_on b bs) bs) in
        omega (arith, number_most b bs other after starts whole lexeme, front);
  };
  length_is = omega (arith, front);
  of_code = of_code;
}
  where
    front : length (take (going_on b bs) bs) ≡ going_on b bs
    front = length-take-le (going_on b bs) bs (going_within b bs)

front_is : (b n : ℕ) (bs : List ℕ) → take (1 + n) (b ∷ bs) ≡ b ∷ take n bs
front_is b n bs = let one : 1 + n ≡ suc n = omega arith in rw one refl

-- where a number starts, what it goes on with makes it one
pub number_here : (rest : List ℕ) (len : ℕ) → starts_number rest ≡ true
    → len ≡ going_on (get_or rest 0 0) (take (length rest - 1) (drop 1 rest)) → is_any_number (take (1 + len) rest) ≡ true
number_here [] len starts e = cc
number_here (b ∷ bs) len starts e =
    let is : len ≡ going_on b bs = rw (take_rest (b ∷ bs) 1) at e in
    rw (is, front_is b (going_on b bs) bs) (going_any b bs starts)

-- and the longest lexeme
pub number_first_here : (rest : List ℕ) (len : ℕ) (k : Kind) → starts_number rest ≡ true
    → len ≡ going_on (get_or rest 0 0) (take (length rest - 1) (drop 1 rest)) → IsOfCode (Some k) (take (1 + len) rest)
    → LexemeFirst rest (record { kind = Some k; len = 1 + len })
number_first_here [] len k starts e of_code = cc
number_first_here (b ∷ bs) len k starts e of_code =
    let is : len ≡ going_on b bs = rw (take_rest (b ∷ bs) 1) at e in
    rw is (number_first b bs k starts (rw (is, front_is b (going_on b bs) bs) at of_code))
