-- Whether bytes are a literal, byte by byte.
use Rattle.std.proofs.Common.{◌≡◌, ℕ, Bool, true, false, not, ◌&&◌, cond, eqb, ⊎_elim, List, [], ◌∷◌, ◌++◌, refl, ap, sym, ◌∙◌}
use Rattle.std.proofs.lemmas.Bool.{and_parts, and_from, cases_Bool, eq-eqb, eqb-true, false_from_ne_true, not-true, not_from_false}
use Rattle.std.specs.List.{list_all, flat_map}
use Rattle.lang_tokens.specs.Bytes.{is_on_line, is_quote}
use Rattle.lang_tokens.specs.Lexemes.{QuotedPart, plain, escaped, part_bytes, is_part, IsQuoted}

-- no bytes
abbrev pub is_nothing : List ℕ → Bool
is_nothing [] = true
is_nothing (b ∷ bs) = false

-- What follows a literal's first quote: bytes of one line, up to the next such quote and no further. Behind a `\` that speaks of what
-- follows it, any byte of the line is passed over.
abbrev pub closes : ℕ → Bool → List ℕ → Bool
closes quote passes [] = false
closes quote true (b ∷ bs) = is_on_line b && closes quote false bs
closes quote false (b ∷ bs) = is_on_line b && cond (eqb b quote) (is_nothing bs) (closes quote (eqb b 92) bs)

-- whether it is a literal
abbrev pub is_quoted : List ℕ → Bool
is_quoted [] = false
is_quoted (b ∷ bs) = is_quote b && closes b false bs

-- no quote is this byte
quote_is_no : (p : ℕ) → is_quote p ≡ false → (quote : ℕ) → is_quote quote ≡ true → eqb p quote ≡ false
quote_is_no p fails quote h = false_from_ne_true (eqb p quote) (λ is. let same : p ≡ quote = eqb-true p quote is in
    let none : false ≡ true = sym fails ∙ (ap is_quote same ∙ h) in cc)

quote_on_line : (quote : ℕ) → is_quote quote ≡ true → is_on_line quote ≡ true
quote_on_line quote h = not_from_false (eqb quote 10) (false_from_ne_true (eqb quote 10) (λ is. let same : quote ≡ 10 =
    eqb-true quote 10 is in let none : false ≡ true = rw same at h in cc))

parts_close : (quote : ℕ) (parts : List QuotedPart) → is_quote quote ≡ true → list_all (is_part quote) parts ≡ true
    → closes quote false (flat_map part_bytes parts ++ quote ∷ []) ≡ true
parts_close quote [] is all = rw (quote_on_line quote is, eq-eqb quote quote refl) refl
parts_close quote (plain b ∷ parts) is all =
    let both = and_parts (is_part quote (plain b)) (list_all (is_part quote) parts) all in
    let here = and_parts (is_on_line b) (not (eqb b quote) && not (eqb b 92)) both.0 in
    let other = and_parts (not (eqb b quote)) (not (eqb b 92)) here.1 in
    rw (here.0, not-true (eqb b quote) other.0, not-true (eqb b 92) other.1) (parts_close quote parts is both.1)
parts_close quote (escaped b ∷ parts) is all =
    let both = and_parts (is_on_line b) (list_all (is_part quote) parts) all in
    rw (quote_is_no 92 refl quote is, both.0) (parts_close quote parts is both.1)

-- a literal passes
pub quoted_test : (bytes : List ℕ) → IsQuoted bytes → is_quoted bytes ≡ true
quoted_test bytes q = rw (← q.spelled) (and_from (is_quote q.quote) (closes q.quote false (flat_map part_bytes q.parts ++ q.quote ∷ []))
    q.quotes (parts_close q.quote q.parts q.quotes q.are_parts))

-- Parts and the last quote, from a byte that a `\` before it speaks of on.
record IsInside (quote : ℕ) (bytes : List ℕ) : Type 0 where
  parts : List QuotedPart
  are_parts : list_all (is_part quote) parts ≡ true
  spelled : flat_map part_bytes parts ++ quote ∷ [] ≡ bytes

abbrev HasParts : ℕ → Bool → List ℕ → Type 0
HasParts quote false bytes = IsInside quote bytes
HasParts quote true bytes = IsInside quote (92 ∷ bytes)

nothing_is : (bytes : List ℕ) → is_nothing bytes ≡ true → [] ≡ bytes
nothing_is [] h = refl
nothing_is (b ∷ bytes) h = cc

behind_escape : (quote b : ℕ) (bytes : List ℕ) → is_on_line b ≡ true → IsInside quote bytes → IsInside quote (92 ∷ b ∷ bytes)
behind_escape quote b bytes line inside = record {
  parts = escaped b ∷ inside.parts;
  are_parts = and_from (is_on_line b) (list_all (is_part quote) inside.parts) line inside.are_parts;
  spelled = ap (λ (bs : List ℕ). 92 ∷ b ∷ bs) inside.spelled;
}

behind_plain : (quote b : ℕ) (bytes : List ℕ) (t : Bool) → is_on_line b ≡ true → eqb b quote ≡ false → eqb b 92 ≡ t → HasParts quote t bytes
    → IsInside quote (b ∷ bytes)
behind_plain quote b bytes true line other slash inside = let same : 92 ≡ b = sym (eqb-true b 92 slash) in rw (← same) inside
behind_plain quote b bytes false line other slash inside = record {
  parts = plain b ∷ inside.parts;
  are_parts = and_from (is_part quote (plain b)) (list_all (is_part quote) inside.parts)
      (and_from (is_on_line b) (not (eqb b quote) && not (eqb b 92)) line
      (and_from (not (eqb b quote)) (not (eqb b 92)) (not_from_false (eqb b quote) other) (not_from_false (eqb b 92) slash)))
      inside.are_parts;
  spelled = ap (λ (bs : List ℕ). b ∷ bs) inside.spelled;
}

parts_of : (quote : ℕ) (passes : Bool) (bytes : List ℕ) → closes quote passes bytes ≡ true → HasParts quote passes bytes
parts_of quote passes [] h = cc
parts_of quote true (b ∷ bytes) h =
    let both = and_parts (is_on_line b) (closes quote false bytes) h in
    behind_escape quote b bytes both.0 (parts_of quote false bytes both.1)
parts_of quote false (b ∷ bytes) h =
    let both = and_parts (is_on_line b) (cond (eqb b quote) (is_nothing bytes) (closes quote (eqb b 92) bytes)) h in
    ⊎_elim
    (λ (ends : eqb b quote ≡ true). let none : [] ≡ bytes = nothing_is bytes (rw ends at both.1) in
    let same : quote ≡ b = sym (eqb-true b quote ends) in
    record { parts = []; are_parts = refl; spelled = ap (λ (x : ℕ). x ∷ []) same ∙ ap (λ (bs : List ℕ). b ∷ bs) none })
    (λ (goes : eqb b quote ≡ false). behind_plain quote b bytes (eqb b 92) both.0 goes refl
    (parts_of quote (eqb b 92) bytes (rw goes at both.1)))
    (cases_Bool (eqb b quote))

-- what passes is a literal
pub quoted_from : (bytes : List ℕ) → is_quoted bytes ≡ true → IsQuoted bytes
quoted_from [] h = cc
quoted_from (b ∷ bytes) h =
    let both = and_parts (is_quote b) (closes b false bytes) h in
    let inside = parts_of b false bytes both.1 in
    record {
      quote = b;
      parts = inside.parts;
      quotes = both.0;
      are_parts = inside.are_parts;
      spelled = ap (λ (bs : List ℕ). b ∷ bs) inside.spelled;
    }
