-- The term that stands first among tokens.
use Rattle.std.proofs.Common.{◌≡◌, ◌≤◌, ◌+◌, ◌-◌, ℕ, ℤ, pos, Bool, List, [], ◌∷◌, ◌++◌, length, map, take, drop, get_or, slice_range}
use Rattle.std.proofs.Common.{Option, None, Some}
use Rattle.std.proofs.Common.{MatchOption, Bor, refl, ap, sym, subst, ◌∙◌, arith}
use Rattle.std.proofs.lemmas.List.{take_all, map-append}
use Rattle.lang_tokens.specs.declared.token.Token.{Token}
use Rattle.lang_tokens.specs.declared.token.Kind.TheVariants as kind
use Rattle.flow_templates.specs.declared.term.Term.{Term}
use Rattle.flow_templates.specs.Grammar.{Symbol, number, named, symbol_with, symbols_of, factor_symbols, signed, Written, amount}
use Rattle.flow_templates.specs.Kept.{kept_amount, AllFit, TakesTerm, NoTerm, TakesName, NoName}

rest_is : (t : Token) (ts : List Token) → take (length (t ∷ ts) - 1) (drop 1 (t ∷ ts)) ≡ ts
rest_is t ts = take_all (length (t ∷ ts) - 1) ts (omega arith)

-- a name that stands first is a term without a factor
pub name_first : (line : List ℕ) (tokens : List Token) (d : Token) (negative : Bool) (kept : Term) → 1 ≤ length tokens
    → (get_or tokens 0 d).kind ≡ kind.Name → kept.coefficient ≡ signed negative (pos 1)
    → kept.name.now ≡ slice_range line (get_or tokens 0 d).at ((get_or tokens 0 d).at + (get_or tokens 0 d).len) → AllFit line tokens
    → TakesTerm line tokens negative kept (take (length tokens - 1) (drop 1 tokens))
name_first line [] d negative kept l k c n fit = absurd (omega arith)
name_first line (t ∷ ts) d negative kept l k c n fit =
    let P : List Token → Type 0 = λ after. TakesTerm line (t ∷ ts) negative kept after in
    subst P (sym (rest_is t ts)) (record {
      term = record { negative = negative; factor = None; name = kept.name.now };
      sign = refl;
      stands_for = ap (λ z. (z, kept.name.now)) (sym c);
      spelled = ap (λ s. s ∷ symbols_of line ts) (ap (λ k. symbol_with k (slice_range line t.at (t.at + t.len))) k ∙ ap named (sym n));
      fit = fit.1;
    })

no_number : (f : Option ℤ) (n : List ℕ) (z : ℤ) (symbols more : List Symbol)
    → number z ∷ symbols ≡ (factor_symbols f ++ named n ∷ []) ++ more → NoName symbols → ⊥
no_number None n z symbols more e h = cc
no_number (Some f) n z symbols more e h = h n more cc

-- a number stands first, before these tokens
number_before : (line : List ℕ) (t : Token) (ts : List Token) (negative : Bool) (factor : ℤ) (r : Option (Term × Bor (List Token)))
    → t.kind ≡ kind.Number factor → MatchOption r (NoName (symbols_of line ts))
    (λ found. TakesName line ts negative factor found.0 found.1.now) →
    MatchOption r (NoTerm (symbols_of line (t ∷ ts))) (λ found. TakesTerm line (t ∷ ts) negative found.0 found.1.now)
number_before line t ts negative factor None k h = λ term more e.
    no_number term.factor term.name factor (symbols_of line ts) more
    (ap (λ s. s ∷ symbols_of line ts) (sym (ap (λ q. symbol_with q (slice_range line t.at (t.at + t.len))) k)) ∙ e) h
number_before line t ts negative factor (Some found) k h = record {
  term = record { negative = negative; factor = Some factor; name = found.0.name.now };
  sign = refl;
  stands_for = ap (λ z. (z, found.0.name.now)) (sym h.coefficient);
  spelled = ap (λ s. s ∷ symbols_of line ts) (ap (λ q. symbol_with q (slice_range line t.at (t.at + t.len))) k)
      ∙ ap (λ ss. number factor ∷ ss) h.spelled;
  fit = h.fit;
}

-- a number that stands first is the factor of a term, where `*` and a name follow, and else no term
pub number_first : (line : List ℕ) (tokens : List Token) (d : Token) (negative : Bool) (factor same : ℤ)
    (r : Option (Term × Bor (List Token))) → 1 ≤ length tokens → (get_or tokens 0 d).kind ≡ kind.Number factor → same ≡ factor
    → MatchOption r (NoName (symbols_of line (take (length tokens - 1) (drop 1 tokens))))
    (λ found. TakesName line (take (length tokens - 1) (drop 1 tokens)) negative same found.0 found.1.now)
    → MatchOption r (NoTerm (symbols_of line tokens)) (λ found. TakesTerm line tokens negative found.0 found.1.now)
number_first line [] d negative factor same r l k e h = absurd (omega arith)
number_first line (t ∷ ts) d negative factor same r l k e h =
    let P : List Token → Type 0 = λ after. MatchOption r (NoName (symbols_of line after))
    (λ found. TakesName line after negative same found.0 found.1.now) in
    let Q : ℤ → Type 0 = λ f. MatchOption r (NoName (symbols_of line ts)) (λ found. TakesName line ts negative f found.0 found.1.now) in
    number_before line t ts negative factor r k (subst Q e (subst P (rest_is t ts) h))

-- one more term is kept
pub kept_more : (done : List Written) (t : Written) (kept more : List Term) (x : Term) → map amount done ≡ map kept_amount kept
    → amount t ≡ kept_amount x → more ≡ kept ++ x ∷ [] → map amount (done ++ t ∷ []) ≡ map kept_amount more
kept_more done t kept more x e a p =
    map-append amount done (t ∷ []) ∙ (ap (λ l. l ++ amount t ∷ []) e
    ∙ (ap (λ y. map kept_amount kept ++ y ∷ []) a ∙ (sym (map-append kept_amount kept (x ∷ [])) ∙ ap (map kept_amount) (sym p))))
