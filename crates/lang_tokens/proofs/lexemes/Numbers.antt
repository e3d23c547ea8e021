-- What the numbers of C go on with.
use Rattle.std.proofs.Common.{◌≡◌, ◌≤◌, ℕ, length, arith, ◌++◌, true, false, ◌||◌, ◌&&◌, eqb, List, [], ◌∷◌, refl}
use Rattle.std.proofs.lemmas.Bool.{and_parts, and_from, or_left, or_right, false_from_ne_true}
use Rattle.std.proofs.lemmas.List.{append_assoc, length-append}
use Rattle.std.specs.List.{list_all}
use Rattle.lang_tokens.specs.Bytes.{is_letter, is_digit, is_word_byte, is_exponent}
use Rattle.lang_tokens.specs.declared.lexicon.Lexicon.TheVariants.{C}
use Rattle.lang_tokens.specs.Directives.{starts_with_digit, starts_with_letter}
use Rattle.lang_tokens.specs.Reading.{IsLongest}
use Rattle.lang_tokens.specs.Lexemes.{is_numeral, is_any_number, goes_on, all_go_on, a_number}

-- a number goes on with each letter, digit and `_`
pub word_goes_on : (last b : ℕ) → is_word_byte b ≡ true → goes_on last b ≡ true
word_goes_on last b h = or_left (is_word_byte b || eqb b 46) (is_exponent last && (eqb b 43 || eqb b 45))
    (or_left (is_word_byte b) (eqb b 46) h)

-- so it does with digits
pub digit_goes_on : (last b : ℕ) → is_digit b ≡ true → goes_on last b ≡ true
digit_goes_on last b h = word_goes_on last b (or_right (is_letter b) (is_digit b) h)

-- and with each of several digits
pub digits_go_on : (last : ℕ) (bs : List ℕ) → list_all is_digit bs ≡ true → all_go_on last bs ≡ true
digits_go_on last [] h = refl
digits_go_on last (b ∷ bs) h =
    let both = and_parts (is_digit b) (list_all is_digit bs) h in
    and_from (goes_on last b) (all_go_on b bs) (digit_goes_on last b both.0) (digits_go_on b bs both.1)

-- digits are a number of C
pub numeral_is_number : (bytes : List ℕ) → is_numeral bytes ≡ true → is_any_number bytes ≡ true
numeral_is_number [] h = h
numeral_is_number (b ∷ bs) h =
    let both = and_parts (is_digit b) (list_all is_digit bs) h in
    and_from (is_digit b || (eqb b 46 && starts_with_digit bs)) (all_go_on b bs)
    (or_left (is_digit b) (eqb b 46 && starts_with_digit bs) both.0) (digits_go_on b bs both.1)

-- one digit or more, where there is a byte
pub numeral_from : (bytes : List ℕ) → eqb (length bytes) 0 ≡ false → list_all is_digit bytes ≡ is_numeral bytes
numeral_from [] some = cc
numeral_from (b ∷ bs) some = refl

word_byte_push : (last : ℕ) (bs : List ℕ) (a : ℕ) → all_go_on last bs ≡ true → is_word_byte a ≡ true → all_go_on last (bs ++ a ∷ []) ≡ true
word_byte_push last [] a h w = and_from (goes_on last a) true (word_goes_on last a w) refl
word_byte_push last (b ∷ bs) a h w =
    let both = and_parts (goes_on last b) (all_go_on b bs) h in
    and_from (goes_on last b) (all_go_on b (bs ++ a ∷ [])) both.0 (word_byte_push b bs a both.1 w)

numeral_push : (bytes : List ℕ) (a : ℕ) → is_numeral bytes ≡ true → is_letter a ≡ true → is_any_number (bytes ++ a ∷ []) ≡ true
numeral_push [] a h l = cc
numeral_push (b ∷ bs) a h l =
    let both = and_parts (is_digit b) (list_all is_digit bs) h in
    and_from (is_digit b || (eqb b 46 && starts_with_digit (bs ++ a ∷ []))) (all_go_on b (bs ++ a ∷ []))
    (or_left (is_digit b) (eqb b 46 && starts_with_digit (bs ++ a ∷ [])) both.0)
    (word_byte_push b bs a (digits_go_on b bs both.1) (or_left (is_letter a) (is_digit a) l))

-- behind digits that are the longest lexeme of C no letter stands
pub numeral_apart : (bytes after : List ℕ) → IsLongest C bytes after → is_numeral bytes ≡ true → starts_with_letter after ≡ false
numeral_apart bytes [] longest digits = refl
numeral_apart bytes (a ∷ after) longest digits = false_from_ne_true (is_letter a) (λ l.
    let longer : length (bytes ++ a ∷ []) ≤ length bytes =
    longest.longest (bytes ++ a ∷ []) after (append_assoc bytes (a ∷ []) after) (a_number (numeral_push bytes a digits l)) in
    omega (arith, longer, length-append bytes (a ∷ [])))
