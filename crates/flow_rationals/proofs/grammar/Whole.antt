-- The symbols of a text that go through spell equations.
use Rattle.std.proofs.Common.{◌≡◌, ◌∙◌, ◌++◌, ◌+◌, ◌<◌, ◌≤◌, ℕ, zero, suc, List, [], ◌∷◌, length, take, drop, get_or, Option, Some, None}
use Rattle.std.proofs.Common.{option_and_then, refl, sym, ap, subst, append_assoc, arith}
use Rattle.std.proofs.lemmas.List.{map-append, length-append, length-map, take-map, take_more, take-append-drop}
use Rattle.base_limits.specs.declared.limits.TheConstants.{MOST_TEXT_BYTES}
use Rattle.lang_tokens.specs.declared.lexicon.Lexicon.TheVariants.{Own}
use Rattle.lang_tokens.specs.declared.token.Token.{Token}
use Rattle.lang_tokens.specs.Reading.{Reads, end_at}
use Rattle.lang_tokens.specs.TokenLists.{AreTokensAfter, AreTokensOf}
use Rattle.lang_tokens.proofs.reading.Once.{one_token_list}
use Rattle.flow_rationals.specs.declared.reading.symbol.Symbol.{Symbol}
use Rattle.flow_rationals.specs.declared.reading.symbol.Symbol.TheVariants as symbol
use Rattle.flow_rationals.specs.declared.reading.place.Place.{Place}
use Rattle.flow_rationals.specs.declared.reading.place.Place.TheVariants as place
use Rattle.flow_rationals.specs.declared.reading.written.Written.{Written}
use Rattle.flow_rationals.specs.Symbols.{symbol_of, symbols_of, AllWithin}
use Rattle.flow_rationals.specs.Grammar.{Spells}
use Rattle.flow_rationals.specs.Places.{run, GoesThrough, RefusedAt}
use Rattle.flow_rationals.specs.EquationTexts.{ReadsWritten, HasUnexpected}
use Rattle.flow_rationals.proofs.grammar.Complete.{run-append}
use Rattle.flow_rationals.specs.EquFaults.{choice_count}
use Rattle.flow_rationals.proofs.grammar.Lengths.{spelled_len}
use Rattle.flow_rationals.proofs.grammar.Sound.{sound, through_begins, begins_through}

-- the tokens of a text stand within it
front_within : (text : List ℕ) (place : ℕ) (front : List Token) → AreTokensAfter text place front
    → AllWithin text (front ++ end_at (length text) ∷ [])
front_within text place [] h = (omega arith, tt)
front_within text place (t ∷ ts) h = (h.0.within, front_within text (t.at + t.len) ts h.1)

-- the tokens of a text stand within it
pub all_within : (text : List ℕ) (tokens : List Token) → AreTokensOf text tokens → AllWithin text tokens
all_within text tokens h = subst (AllWithin text) h.ended (front_within text 0 h.front h.placed)

-- the token at a place of a list of tokens within a text ends within the text
pub within_at : (text : List ℕ) (tokens : List Token) (i : ℕ) (d : Token) → i < length tokens → AllWithin text tokens
    → (get_or tokens i d).at + (get_or tokens i d).len ≤ length text
within_at text [] i d h a = absurd (omega arith)
within_at text (t ∷ ts) zero d h a = a.0
within_at text (t ∷ ts) (suc i) d h a = within_at text ts i d (omega arith) a.1

-- and there are no more than bytes, but for the end
front_few : (text : List ℕ) (place : ℕ) (front : List Token) → place ≤ length text → AreTokensAfter text place front
    → place + length front ≤ length text
front_few text place [] l h = omega arith
front_few text place (t ∷ ts) l h = omega (arith, h.0.after, h.0.some, h.0.within, front_few text (t.at + t.len) ts h.0.within h.1)

-- a text has no more tokens than bytes, but for the end
pub tokens_few : (text : List ℕ) (tokens : List Token) → length text ≤ MOST_TEXT_BYTES → AreTokensOf text tokens
    → length tokens ≤ MOST_TEXT_BYTES + 1
tokens_few text tokens short h = omega (
  arith,
  ap length h.ended,
  length-append h.front (end_at (length text) ∷ []),
  front_few text 0 h.front (omega arith) h.placed,
)

end_done : (q p : Place) → run q (symbol.End ∷ []) ≡ Some p → p ≡ place.Done
end_done place.First p h = cc
end_done place.Name p h = cc
end_done place.Equal p h = cc
end_done place.Max p h = cc
end_done place.Opening p h = cc
end_done place.Start p h = cc
end_done place.StartNumber p h = cc
end_done place.StartBelow p h = cc
end_done place.StartDen p h = cc
end_done place.Alternatives p h = cc
end_done place.Alternative p h = cc
end_done place.MinOpening p h = cc
end_done (place.Part w) p h = cc
end_done (place.Factor w) p h = cc
end_done (place.FactorDen w) p h = cc
end_done (place.FactorEnd w) p h = cc
end_done (place.Times w) p h = cc
end_done (place.Constant w) p h = cc
end_done (place.ConstantBelow w) p h = cc
end_done (place.ConstantDen w) p h = cc
end_done (place.AfterPart w) p h = cc
end_done place.Semicolon p h = cc
end_done place.Done p h = cc

last_done : (o : Option Place) (p : Place) → option_and_then (λ q. run q (symbol.End ∷ [])) o ≡ Some p → p ≡ place.Done
last_done None p h = cc
last_done (Some q) p h = end_done q p h

-- a text whose symbols go through is one of equations
through_spells : (text : List ℕ) (tokens : List Token) → Reads Own text tokens → GoesThrough (symbols_of text tokens)
    → (es : List Written) × Spells (symbols_of text tokens) es
through_spells text tokens r g =
    let all : symbols_of text tokens ≡ symbols_of text r.front ++ symbol.End ∷ [] =
    ap (symbols_of text) (sym r.told) ∙ map-append (symbol_of text) r.front (end_at (length text) ∷ []) in
    let whole : run place.First (symbols_of text r.front ++ symbol.End ∷ []) ≡ Some g.0 = ap (run place.First) (sym all) ∙ g.1 in
    let done : g.0 ≡ place.Done = last_done (run place.First (symbols_of text r.front)) g.0
    (sym (run-append place.First (symbols_of text r.front) (symbol.End ∷ [])) ∙ whole) in
    sound place.First (symbols_of text tokens) (g.1 ∙ ap Some done)

-- where the symbols of a text go through no further, a token is unexpected
refused_unexpected : (text : List ℕ) (tokens : List Token) (i : ℕ) (d : Token) → Reads Own text tokens
    → RefusedAt (symbols_of text tokens) i
    → HasUnexpected text (get_or tokens i d).at
refused_unexpected text tokens i d r f =
    let within : i < length tokens = omega (arith, f.within, length-map tokens (symbol_of text)) in
    let front : symbols_of text (take i tokens) ≡ take i (symbols_of text tokens) = sym (take-map (symbol_of text) i tokens) in
    let more : take (i + 1) tokens ≡ take i tokens ++ get_or tokens i d ∷ [] = take_more tokens i d within in
    let next : symbols_of text (take i tokens ++ get_or tokens i d ∷ []) ≡ take (i + 1) (symbols_of text tokens) =
    ap (symbols_of text) (sym more) ∙ sym (take-map (symbol_of text) (i + 1) tokens) in
    record {
      front = take i tokens;
      token = get_or tokens i d;
      rest = drop (i + 1) tokens;
      reads = subst (Reads Own text)
          (sym (take-append-drop (i + 1) tokens) ∙ (ap (λ x. x ++ drop (i + 1) tokens) more
          ∙ append_assoc (take i tokens) (get_or tokens i d ∷ []) (drop (i + 1) tokens))) r;
      begins = through_begins (symbols_of text (take i tokens)) f.place (ap (run place.First) front ∙ f.before);
      stops = λ b. begins_through (symbols_of text (take i tokens ++ get_or tokens i d ∷ [])) b (ap (run place.First) next ∙ f.refused);
      place = refl;
    }

-- where a token's symbol is refused, the token is unexpected at its place
pub unexpected_at : (text : List ℕ) (tokens : List Token) (ss : List Symbol) (i : ℕ) (x : Token) → Reads Own text tokens
    → ss ≡ symbols_of text tokens → RefusedAt ss i → x ≡ get_or tokens i x → HasUnexpected text x.at
unexpected_at text tokens ss i x r s f e =
    subst (λ (t : Token). HasUnexpected text t.at) (sym e) (refused_unexpected text tokens i x r (subst (λ ss. RefusedAt ss i) s f))

-- The symbols of a text that were read are those of its tokens.
pub same_symbols : (text : List ℕ) (tokens read : List Token) (symbols told : List Symbol) → read ≡ tokens → symbols ≡ symbols_of text read
    → told ≡ symbols → told ≡ symbols_of text tokens
same_symbols text tokens read symbols told a b c = c ∙ (b ∙ ap (symbols_of text) a)

-- the equations that were found in them are those that they spell
pub written_reads : (text : List ℕ) (tokens : List Token) (s t : List Symbol) (list : List Written) → Reads Own text tokens
    → s ≡ symbols_of text tokens → t ≡ symbols_of text tokens → GoesThrough s → ((es : List Written) → Spells t es → list ≡ es)
    → ReadsWritten text list
written_reads text tokens s t list r a b g found =
    let x = through_spells text tokens r (subst GoesThrough a g) in
    let e : list ≡ x.0 = found x.0 (subst (λ ss. Spells ss x.0) (sym b) x.1) in
    record { tokens = tokens; reads = r; spelled = subst (Spells (symbols_of text tokens)) (sym e) x.1 }

-- where the symbols of a text spell these equations alone, the text reads as them alone
pub written_only : (text : List ℕ) (tokens : List Token) (t : List Symbol) (list : List Written) → Reads Own text tokens
    → t ≡ symbols_of text tokens → ((es : List Written) → Spells t es → list ≡ es) → (other : List Written) → ReadsWritten text other
    → list ≡ other
written_only text tokens t list r b found other w =
    let same : w.tokens ≡ tokens = one_token_list Own text w.tokens tokens w.reads r in
    found other (subst (λ ss. Spells ss other) (ap (symbols_of text) same ∙ sym b) w.spelled)

-- a text whose symbols go through spells some equations
pub written_found : (text : List ℕ) (tokens : List Token) (s t : List Symbol) → Reads Own text tokens → s ≡ symbols_of text tokens
    → t ≡ symbols_of text tokens → GoesThrough s → ((es : List Written) → Spells t es → ⊥) → ⊥
written_found text tokens s t r a b g none =
    let x = through_spells text tokens r (subst GoesThrough a g) in
    none x.0 (subst (λ ss. Spells ss x.0) (sym b) x.1)

-- equations of a text and their alternatives are together no more than its tokens may be
pub written_few : (text : List ℕ) (tokens : List Token) (list : List Written) → Reads Own text tokens → length tokens ≤ MOST_TEXT_BYTES + 1
    → ReadsWritten text list → length list + choice_count list ≤ MOST_TEXT_BYTES + 1
written_few text tokens list r few w =
    let same : w.tokens ≡ tokens = one_token_list Own text w.tokens tokens w.reads r in
    omega (arith, spelled_len (symbols_of text w.tokens) list w.spelled, length-map w.tokens (symbol_of text), ap length same)

-- a text of equations has at least one
pub written_some : (text : List ℕ) (list told : List Written) → told ≡ list → ReadsWritten text list → 1 ≤ length told
written_some text [] told e w = absurd w.spelled
written_some text (x ∷ xs) told e w = omega (arith, ap length e)
