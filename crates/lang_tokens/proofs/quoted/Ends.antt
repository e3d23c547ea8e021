-- Where literals end.
use Rattle.std.proofs.Common.{◌≡◌, ◌≤◌, ◌<◌, ◌+◌, ◌-◌, ℕ, suc, Bool, true, false, cond, eqb, ⊎_elim, List, [], ◌∷◌, ◌++◌, length}
use Rattle.std.proofs.Common.{take, drop, get_or, refl, ap, sym, ◌∙◌, arith, Option, Some, None}
use Rattle.std.proofs.lemmas.Bool.{and_parts, and_from, cases_Bool, not-true, not_from_false}
use Rattle.std.proofs.lemmas.List.{take-append-drop, length-take-le, take_rest}
use Rattle.std.specs.Option.{option_map}
use Rattle.lang_tokens.specs.declared.lexicon.Lexicon.TheVariants.{C}
use Rattle.lang_tokens.specs.declared.token.Foreign.TheVariants.{Byte}
use Rattle.lang_tokens.specs.declared.token.Kind.TheVariants as kind
use Rattle.lang_tokens.specs.Bytes.{is_on_line, is_quote}
use Rattle.lang_tokens.specs.Lexemes.{IsLexeme, an_other, a_quoted, literal}
use Rattle.lang_tokens.specs.Steps.{LexemeFirst, NoLexemeFirst, closing}
use Rattle.lang_tokens.proofs.quoted.Parts.{is_nothing, closes, is_quoted, quoted_from}
use Rattle.lang_tokens.proofs.lexemes.Led.{c_quoted_starts}

-- one place further
abbrev pub later : Option ℕ → Option ℕ
later o = option_map (λ place. 1 + place) o

-- what a place that was found one further on was before
later_place : (o : Option ℕ) (n : ℕ) → later o ≡ Some n → (k : ℕ) × (o ≡ Some k) × (n ≡ 1 + k)
later_place None n e = cc
later_place (Some k) n e = (k, refl, cc)

-- The literal closes at this place.
abbrev ClosesAt : ℕ → Bool → List ℕ → ℕ → Type 0
ClosesAt quote passes bs n = (closes quote passes (take (suc n) bs) ≡ true) × (n < length bs)

step_passed : (quote b n k : ℕ) (bs : List ℕ) → eqb b 10 ≡ false → n ≡ 1 + k → ClosesAt quote false bs k → ClosesAt quote true (b ∷ bs) n
step_passed quote b n k bs line e more =
    let is : n ≡ suc k = omega arith in
    rw is (and_from (is_on_line b) (closes quote false (take (suc k) bs)) (not_from_false (eqb b 10) line) more.0, omega (arith, more.1))

step_on : (quote b n k : ℕ) (bs : List ℕ) → eqb b 10 ≡ false → eqb b quote ≡ false → n ≡ 1 + k → ClosesAt quote (eqb b 92) bs k
    → ClosesAt quote false (b ∷ bs) n
step_on quote b n k bs line goes e more =
    let is : n ≡ suc k = omega arith in
    let on : closes quote false (b ∷ take (suc k) bs) ≡ true = rw (line, goes) more.0 in
    rw is (on, omega (arith, more.1))

-- what a literal closes with, closes it
pub closing_sound : (quote : ℕ) (passes : Bool) (bs : List ℕ) (n : ℕ) → closing quote passes bs ≡ Some n → ClosesAt quote passes bs n
closing_sound quote passes [] n e = cc
closing_sound quote true (b ∷ bs) n e = ⊎_elim
    (λ (feed : eqb b 10 ≡ true). let none : None ≡ Some n = rw feed at e in cc)
    (λ (line : eqb b 10 ≡ false). let found = later_place (closing quote false bs) n (rw line at e) in
    step_passed quote b n found.0 bs line found.2 (closing_sound quote false bs found.0 found.1))
    (cases_Bool (eqb b 10))
closing_sound quote false (b ∷ bs) n e = ⊎_elim
    (λ (feed : eqb b 10 ≡ true). let none : None ≡ Some n = rw feed at e in cc)
    (λ (line : eqb b 10 ≡ false). ⊎_elim
    (λ (ends : eqb b quote ≡ true). let found : Some 0 ≡ Some n = rw (line, ends) at e in let is : n ≡ 0 = cc in
    let on : closes quote false (b ∷ []) ≡ true = rw (line, ends) refl in rw is (on, omega arith))
    (λ (goes : eqb b quote ≡ false). let found = later_place (closing quote (eqb b 92) bs) n (rw (line, goes) at e) in
    step_on quote b n found.0 bs line goes found.2 (closing_sound quote (eqb b 92) bs found.0 found.1))
    (cases_Bool (eqb b quote)))
    (cases_Bool (eqb b 10))

nothing_is : (bs : List ℕ) → is_nothing bs ≡ true → bs ≡ []
nothing_is [] h = refl
nothing_is (b ∷ bs) h = cc

closes_some : (quote : ℕ) (passes : Bool) (front : List ℕ) → closes quote passes front ≡ true → 0 < length front
closes_some quote passes [] h = cc
closes_some quote passes (b ∷ front) h = omega arith

-- what closes a literal is found
pub closing_found : (quote : ℕ) (passes : Bool) (front after : List ℕ) → closes quote passes front ≡ true
    → closing quote passes (front ++ after) ≡ Some (length front - 1)
closing_found quote passes [] after h = cc
closing_found quote true (b ∷ front) after h =
    let both = and_parts (is_on_line b) (closes quote false front) h in
    let place : 1 + (length front - 1) ≡ suc (length front) - 1 = omega (arith, closes_some quote false front both.1) in
    rw (not-true (eqb b 10) both.0, closing_found quote false front after both.1) (ap (λ (n : ℕ). Some n) place)
closing_found quote false (b ∷ front) after h =
    let both = and_parts (is_on_line b) (cond (eqb b quote) (is_nothing front) (closes quote (eqb b 92) front)) h in
    rw (not-true (eqb b 10) both.0) (⊎_elim
    (λ (ends : eqb b quote ≡ true). let none : front ≡ [] = nothing_is front (rw ends at both.1) in rw (ends, none) refl)
    (λ (goes : eqb b quote ≡ false). let more : closes quote (eqb b 92) front ≡ true = rw goes at both.1 in
    let place : 1 + (length front - 1) ≡ suc (length front) - 1 = omega (arith, closes_some quote (eqb b 92) front more) in
    rw (goes, closing_found quote (eqb b 92) front after more) (ap (λ (n : ℕ). Some n) place))
    (cases_Bool (eqb b quote)))

-- where the literal of a quote closes
quoted_closes : (b : ℕ) (bs other after : List ℕ) → is_quote b ≡ true → other ++ after ≡ b ∷ bs → IsLexeme C other
    → closing b false bs ≡ Some (length other - 2)
quoted_closes b bs other after quote e lexeme = from other e (c_quoted_starts other after bs b e lexeme quote)
  where
    from : (other : List ℕ) → other ++ after ≡ b ∷ bs → is_quoted other ≡ true → closing b false bs ≡ Some (length other - 2)
    from [] e q = cc
    from (o ∷ other) e q =
        let first : o ≡ b = cc in
        let more : other ++ after ≡ bs = cc in
        let place : length other - 1 ≡ suc (length other) - 2 = omega arith in
        let found : closing b false (other ++ after) ≡ Some (length other - 1) =
        closing_found b false other after (rw first at (and_parts (is_quote o) (closes o false other) q).1) in
        rw more at (found ∙ ap (λ (n : ℕ). Some n) place)

-- a literal that closes is the longest lexeme
pub quoted_first : (b : ℕ) (bs : List ℕ) (n : ℕ) → is_quote b ≡ true → closing b false bs ≡ Some n
    → LexemeFirst (b ∷ bs) (record { kind = Some (kind.Foreign Byte); len = n + 2 })
quoted_first b bs n quote e = record {
  bytes = b ∷ take (suc n) bs;
  after = drop (suc n) bs;
  split = ap (λ (xs : List ℕ). b ∷ xs) (take-append-drop (suc n) bs);
  longest = record {
    lexeme = an_other (a_quoted (quoted_from _ quoted));
    longest = λ other after whole lexeme.
        let text : other ++ after ≡ b ∷ bs = whole ∙ ap (λ (xs : List ℕ). b ∷ xs) (take-append-drop (suc n) bs) in
        let same : Some n ≡ Some (length other - 2) = sym e ∙ quoted_closes b bs other after quote text lexeme in
        let place : n ≡ length other - 2 = cc in
        omega (arith, place, front);
  };
  length_is = omega (arith, front);
  of_code = (refl, literal (quoted_from _ quoted));
}
  where
    sound : ClosesAt b false bs n
    sound = closing_sound b false bs n e

    quoted : is_quoted (b ∷ take (suc n) bs) ≡ true
    quoted = and_from (is_quote b) (closes b false (take (suc n) bs)) quote sound.0

    front : length (take (suc n) bs) ≡ suc n
    front = length-take-le (suc n) bs (omega (arith, sound.1))

-- where it doesn't close, nothing starts
pub no_quoted_first : (b : ℕ) (bs : List ℕ) → is_quote b ≡ true → closing b false bs ≡ None → NoLexemeFirst (b ∷ bs)
no_quoted_first b bs quote e bytes after whole lexeme =
    let same : None ≡ Some (length bytes - 2) = sym e ∙ quoted_closes b bs bytes after quote whole lexeme in
    cc

-- a literal that closes behind the first byte of a text stands first
pub quoted_here : (rest : List ℕ) (n : ℕ) → 1 ≤ length rest → is_quote (get_or rest 0 0) ≡ true
    → Some n ≡ closing (get_or rest 0 0) false (take (length rest - 1) (drop 1 rest))
    → LexemeFirst rest (record { kind = Some (kind.Foreign Byte); len = n + 2 })
quoted_here [] n some quote e = absurd (omega arith)
quoted_here (b ∷ bs) n some quote e = quoted_first b bs n quote (sym (rw (take_rest (b ∷ bs) 1) at e))

-- where it doesn't close, nothing stands first
pub no_quoted_here : (rest : List ℕ) → 1 ≤ length rest → is_quote (get_or rest 0 0) ≡ true
    → None ≡ closing (get_or rest 0 0) false (take (length rest - 1) (drop 1 rest)) → NoLexemeFirst rest
no_quoted_here [] some quote e = absurd (omega arith)
no_quoted_here (b ∷ bs) some quote e = no_quoted_first b bs quote (sym (rw (take_rest (b ∷ bs) 1) at e))
