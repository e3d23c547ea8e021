-- Texts without the byte `/`, which is 47, and with `\`, which is 92, before an `f` alone.
use Rattle.std.proofs.Common.{◌≡◌, ◌==◌, ◌+◌, ◌/◌, ◌%◌, ℕ, suc, zero, ℤ, pos, negsuc, nat_abs, Bool, true, false, not, ◌&&◌, ◌||◌, ◌<◌}
use Rattle.std.proofs.Common.{◌≤◌, List, [], ◌∷◌}
use Rattle.std.proofs.Common.{◌++◌, length, refl, ap, sym, arith, ne_eqb, subst, decimal}
use Rattle.std.specs.Prelude.{if◌then◌else◌, nat_le}
use Rattle.std.specs.Fmt.{digits, digits_onto, digit_glyph, signed_decimal}
use Rattle.std.specs.Bool.{nat_lt}
use Rattle.std.specs.List.{list_all}
use Rattle.std.proofs.lemmas.Bool.{and_parts, eqb-true, ltb-true, ltb-false}
use Rattle.lang_tree.specs.Word.{begins_word, is_word, is_word_byte}
use Rattle.flow_systems.specs.Report.{first_sign, later_sign, later_terms, row_text, term_text}

-- the byte is neither `/` nor `\`
abbrev pub is_plain : ℕ → Bool
is_plain b = not (b == 47) && not (b == 92)

-- an `f` at once
abbrev pub starts_with_f : List ℕ → Bool
starts_with_f [] = false
starts_with_f (b ∷ bs) = b == 102

-- the byte isn't `/`, and it is no `\` but before an `f`
abbrev pub is_tame : ℕ → List ℕ → Bool
is_tame b bs = not (b == 47) && (not (b == 92) || starts_with_f bs)

-- each byte is such
abbrev pub all_tame : List ℕ → Bool
all_tame [] = true
all_tame (b ∷ bs) = is_tame b bs && all_tame bs

-- no such byte is `/`
pub plain_not : (b : ℕ) (bs : List ℕ) → 47 ≡ b → is_tame b bs ≡ true → ⊥
plain_not b bs e h = let wrong : is_tame 47 bs ≡ true = subst (λ k. is_tame k bs ≡ true) (sym e) h in cc

-- no byte is `/`, and each `\` stands before an `f`
abbrev pub IsPlain : List ℕ → Type 0
IsPlain bytes = all_tame bytes ≡ true

-- each of these texts is such
abbrev pub ArePlain : List (List ℕ) → Type 0
ArePlain [] = Unit {0}
ArePlain (text ∷ texts) = IsPlain text × ArePlain texts

-- two tests that are passed
both : (a b : Bool) → a ≡ true → b ≡ true → (a && b) ≡ true
both true true h k = refl
both true false h k = k
both false b h k = h

-- what is so of a byte stays so where more may follow
weaker : (a n : Bool) (s : Bool) → (a && n) ≡ true → (a && (n || s)) ≡ true
weaker true true s h = refl
weaker true false s h = cc
weaker false n s h = cc

-- a byte stays tame where more follows
tame_more : (b : ℕ) (xs ys : List ℕ) → is_tame b xs ≡ true → is_tame b (xs ++ ys) ≡ true
tame_more b (x ∷ xs) ys h = h
tame_more b [] ys h = weaker (not (b == 47)) (not (b == 92)) (starts_with_f ys) (only (not (b == 47)) (not (b == 92)) h)
  where
    only : (a n : Bool) → (a && (n || false)) ≡ true → (a && n) ≡ true
    only true true h = refl
    only true false h = cc
    only false n h = cc

-- plain texts, one after the other
pub plain_append : (xs ys : List ℕ) → IsPlain xs → IsPlain ys → IsPlain (xs ++ ys)
plain_append [] ys h k = k
plain_append (x ∷ xs) ys h k =
    let parts = and_parts (is_tame x xs) (all_tame xs) h in
    both (is_tame x (xs ++ ys)) (all_tame (xs ++ ys)) (tame_more x xs ys parts.0) (plain_append xs ys parts.1 k)

-- a plain byte before a plain text
pub plain_cons : (b : ℕ) (bs : List ℕ) → is_plain b ≡ true → IsPlain bs → IsPlain (b ∷ bs)
plain_cons b bs h k = both (is_tame b bs) (all_tame bs) (weaker (not (b == 47)) (not (b == 92)) (starts_with_f bs) h) k

-- one of two plain texts
pub plain_if : (choice : Bool) (xs ys : List ℕ) → IsPlain xs → IsPlain ys → IsPlain (if choice then xs else ys)
plain_if true xs ys h k = h
plain_if false xs ys h k = k

-- ---- numbers
-- a digit is plain
glyph_plain : (d : ℕ) → is_plain (digit_glyph false d) ≡ true
glyph_plain d = by (nat_lt d 10) refl
  where
    by : (b : Bool) → nat_lt d 10 ≡ b → is_plain (if b then 48 + d else 87 + d) ≡ true
    by true e =
        let low : d < 10 = ltb-true d 10 e in
        both (not (48 + d == 47)) (not (48 + d == 92)) (ap not (ne_eqb (48 + d) 47 (λ f. omega arith)))
        (ap not (ne_eqb (48 + d) 92 (λ f. omega arith)))
    by false e =
        let high : 10 ≤ d = ltb-false d 10 e in
        both (not (87 + d == 47)) (not (87 + d == 92)) (ap not (ne_eqb (87 + d) 47 (λ f. omega arith)))
        (ap not (ne_eqb (87 + d) 92 (λ f. omega arith)))

-- digits before a plain text
digits_plain : (k n : ℕ) (behind : List ℕ) → IsPlain behind → IsPlain (digits_onto k 10 false n behind)
digits_plain zero n behind h = h
digits_plain (suc k) n behind h =
    plain_if (n / 10 == 0) (digit_glyph false (n % 10) ∷ behind) (digits_onto k 10 false (n / 10) (digit_glyph false (n % 10) ∷ behind))
    more
    (digits_plain k (n / 10) (digit_glyph false (n % 10) ∷ behind) more)
  where
    more : IsPlain (digit_glyph false (n % 10) ∷ behind)
    more = plain_cons (digit_glyph false (n % 10)) behind (glyph_plain (n % 10)) h

-- a number is plain
pub decimal_plain : (n : ℕ) → IsPlain (decimal n)
unfolding digits
decimal_plain n = digits_plain 64 n [] refl

-- and so is one with a sign
pub signed_plain : (z : ℤ) → IsPlain (signed_decimal z)
signed_plain (pos n) = decimal_plain n
signed_plain (negsuc n) = plain_cons 45 (decimal (suc n)) refl (decimal_plain (suc n))

-- ---- names
-- letters and digits are plain
byte_plain : (b : ℕ) → is_word_byte b ≡ true → is_plain b ≡ true
byte_plain b h = both (not (b == 47)) (not (b == 92)) (by 47 refl (b == 47) refl) (by 92 refl (b == 92) refl)
  where
    by : (n : ℕ) → is_word_byte n ≡ false → (t : Bool) → (b == n) ≡ t → not t ≡ true
    by n no_byte false e = refl
    by n no_byte true e = let wrong : is_word_byte n ≡ true = subst (λ k. is_word_byte k ≡ true) (eqb-true b n e) h in cc

-- texts of letters and digits are plain
bytes_plain : (bs : List ℕ) → list_all is_word_byte bs ≡ true → IsPlain bs
bytes_plain [] h = refl
bytes_plain (b ∷ bs) h =
    let parts = and_parts (is_word_byte b) (list_all is_word_byte bs) h in
    plain_cons b bs (byte_plain b parts.0) (bytes_plain bs parts.1)

-- a word is plain
pub word_plain : (bs : List ℕ) → is_word bs ≡ true → IsPlain bs
word_plain bs h =
    bytes_plain bs (and_parts (begins_word bs) (list_all is_word_byte bs)
    (and_parts (nat_le (length bs) 32) (begins_word bs && list_all is_word_byte bs) h).1).1

-- ---- rows
-- a term is plain where its name is
term_plain : (size : ℕ) (name : List ℕ) → IsPlain name → IsPlain (term_text size name)
term_plain size name h = plain_if (size == 1) name (decimal size ++ 42 ∷ name) h
    (plain_append (decimal size) (42 ∷ name) (decimal_plain size) (plain_cons 42 name refl h))

-- the sign of a first term is plain
first_plain : (c : ℤ) → IsPlain (first_sign c)
first_plain (pos n) = refl
first_plain (negsuc n) = refl

-- and so is that of a later one
later_plain : (c : ℤ) → IsPlain (later_sign c)
later_plain (pos n) = refl
later_plain (negsuc n) = refl

-- the later terms of a row are plain
laters_plain : (names : List (List ℕ)) (cs : List ℤ) → ArePlain names → IsPlain (later_terms names cs)
laters_plain [] cs h = refl
laters_plain (name ∷ names) [] h = refl
laters_plain (name ∷ names) (c ∷ cs) h =
    plain_append (if nat_abs c == 0 then [] else later_sign c ++ term_text (nat_abs c) name) (later_terms names cs)
    (plain_if (nat_abs c == 0) [] (later_sign c ++ term_text (nat_abs c) name) refl
    (plain_append (later_sign c) (term_text (nat_abs c) name) (later_plain c) (term_plain (nat_abs c) name h.0)))
    (laters_plain names cs h.1)

-- a row is plain where its names are
pub row_plain : (names : List (List ℕ)) (cs : List ℤ) → ArePlain names → IsPlain (row_text names cs)
row_plain [] cs h = refl
row_plain (name ∷ names) [] h = refl
row_plain (name ∷ names) (c ∷ cs) h =
    plain_if (nat_abs c == 0) (row_text names cs) ((first_sign c ++ term_text (nat_abs c) name) ++ later_terms names cs)
    (row_plain names cs h.1)
    (plain_append (first_sign c ++ term_text (nat_abs c) name) (later_terms names cs)
    (plain_append (first_sign c) (term_text (nat_abs c) name) (first_plain c) (term_plain (nat_abs c) name h.0))
    (laters_plain names cs h.1))
