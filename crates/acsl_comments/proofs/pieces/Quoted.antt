-- Literals, by a test of their bytes one after the other.
use Rattle.std.proofs.Common.{◌≡◌, ℕ, Bool, true, false, not, ◌&&◌, cond, eqb, List, [], ◌∷◌, ◌++◌, refl, ap, sym, ◌∙◌}
use Rattle.std.proofs.lemmas.Bool.{and_parts, and_from, eq-eqb, eqb-true, false_from_ne_true, not-true, not_from_false}
use Rattle.std.specs.List.{list_all, flat_map}
use Rattle.lang_tokens.specs.Bytes.{is_on_line, is_quote}
use Rattle.lang_tokens.specs.Lexemes.{QuotedPart, plain, escaped, part_bytes, is_part, IsQuoted}

-- no bytes
abbrev pub is_nothing : List ℕ → Bool
is_nothing [] = true
is_nothing (b ∷ bs) = false

-- What follows a literal's first quote: bytes of one line, up to the next such quote and no further. Behind a `\` that speaks of what
-- follows it, any byte of the line is passed over.
abbrev pub closes : ℕ → Bool → List ℕ → Bool
closes quote passes [] = false
closes quote true (b ∷ bs) = is_on_line b && closes quote false bs
closes quote false (b ∷ bs) = is_on_line b && cond (eqb b quote) (is_nothing bs) (closes quote (eqb b 92) bs)

-- whether it is a literal
abbrev pub is_quoted : List ℕ → Bool
is_quoted [] = false
is_quoted (b ∷ bs) = is_quote b && closes b false bs

-- a byte that is no quote is none of them
quote_is_no : (p : ℕ) → is_quote p ≡ false → (quote : ℕ) → is_quote quote ≡ true → eqb p quote ≡ false
quote_is_no p fails quote h = false_from_ne_true (eqb p quote) (λ is. let same : p ≡ quote = eqb-true p quote is in
    let none : false ≡ true = sym fails ∙ (ap is_quote same ∙ h) in cc)

-- a quote stands on its line
quote_on_line : (quote : ℕ) → is_quote quote ≡ true → is_on_line quote ≡ true
quote_on_line quote h = not_from_false (eqb quote 10) (false_from_ne_true (eqb quote 10) (λ is. let same : quote ≡ 10 =
    eqb-true quote 10 is in let none : false ≡ true = rw same at h in cc))

-- the parts of a literal and its last quote close it
parts_close : (quote : ℕ) (parts : List QuotedPart) → is_quote quote ≡ true → list_all (is_part quote) parts ≡ true
    → closes quote false (flat_map part_bytes parts ++ quote ∷ []) ≡ true
parts_close quote [] is all = rw (quote_on_line quote is, eq-eqb quote quote refl) refl
parts_close quote (plain b ∷ parts) is all =
    let both = and_parts (is_part quote (plain b)) (list_all (is_part quote) parts) all in
    let here = and_parts (is_on_line b) (not (eqb b quote) && not (eqb b 92)) both.0 in
    let other = and_parts (not (eqb b quote)) (not (eqb b 92)) here.1 in
    rw (here.0, not-true (eqb b quote) other.0, not-true (eqb b 92) other.1) (parts_close quote parts is both.1)
parts_close quote (escaped b ∷ parts) is all =
    let both = and_parts (is_on_line b) (list_all (is_part quote) parts) all in
    rw (quote_is_no 92 refl quote is, both.0) (parts_close quote parts is both.1)

-- a literal passes
pub quoted_test : (bytes : List ℕ) → IsQuoted bytes → is_quoted bytes ≡ true
quoted_test bytes q = rw (← q.spelled) (and_from (is_quote q.quote) (closes q.quote false (flat_map part_bytes q.parts ++ q.quote ∷ []))
    q.quotes (parts_close q.quote q.parts q.quotes q.are_parts))
