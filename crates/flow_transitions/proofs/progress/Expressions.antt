-- Where an expression ends, and why there is none.
use Rattle.std.proofs.Common.{◌≡◌, ◌∙◌, ℕ, ◌+◌, ◌≤◌, ◌<◌, inl, inr, List, ◌∷◌, length, drop, Result, Ok, Err, refl, sym, ap, arith}
use Rattle.std.proofs.Common.{length-append}
use Rattle.std.proofs.lemmas.List.{length-map, length-drop}
use Rattle.lang_tokens.specs.declared.token.Token.{Token}
use Rattle.lang_grammar.specs.View.{token_of, tokens_of}
use Rattle.lang_meaning.specs.declared.fault.ParseFault.{ParseFault}
use Rattle.lang_meaning.specs.declared.fault.ParseFault.TheVariants as parse
use Rattle.lang_meaning.specs.Results.{◌>>=◌}
use Rattle.lang_meaning.specs.Expressions.{Meaning, first_place, meant}
use Rattle.lang_meaning.specs.ExpressionAnswers.{ExpressionAnswer, ExpressionMeans}
use Rattle.flow_transitions.specs.declared.fault.AutoFault.TheVariants as fault
use Rattle.flow_transitions.specs.AutoReading.{parse_fault}

-- what an answer says
abbrev pub meaning_in : Meaning → ExpressionAnswer → Meaning
meaning_in other (Ok p) = p.0
meaning_in other (Err f) = other

abbrev pub next_in : ℕ → ExpressionAnswer → ℕ
next_in other (Ok p) = p.1
next_in other (Err f) = other

abbrev with_next : ℕ → Result Meaning ParseFault → ExpressionAnswer
with_next k x = x >>= λ n. Ok (n, k)

next_is : (x : Result Meaning ParseFault) (a : ExpressionAnswer) (m : Meaning) (next k : ℕ) → a ≡ Ok (m, next) → a ≡ with_next k x
    → next ≡ k
next_is (Ok y) a m next k e d = ap (next_in k) (sym e ∙ d)
next_is (Err f) a m next k e d = absurd cc

-- before the last token
pub expression_range : (text : List ℕ) (tokens : List Token) (i : ℕ) (names : List (List ℕ)) (m : Meaning) (next : ℕ) →
    ExpressionMeans text (tokens_of text tokens) i names (Ok (m, next)) → (i ≤ next) × (next < length tokens)
expression_range text tokens i names m next (inl (a, f, e)) = absurd cc
expression_range text tokens i names m next (inr (inl (a, f, e))) = absurd cc
expression_range text tokens i names m next (inr (inr (e, n, l, q))) =
    let end : next ≡ i + n = next_is (meant text names (first_place (drop i (tokens_of text tokens))) e) (Ok (m, next)) m next (i + n) refl
    q in
    let rest = l.next ∷ l.rest in (
      omega arith,
      omega (
        arith,
        end,
        l.size,
        ap length l.split,
        length-append l.front rest,
        length-drop i (tokens_of text tokens),
        length-map tokens (token_of text),
      ),
    )

-- a fault that isn't want of memory
pub fault_told : (p : ParseFault) → (parse_fault p ≡ fault.NoMemory → ⊥) → (p ≡ parse.NoMemory → ⊥) × (parse_fault p ≡ fault.Parse p)
fault_told parse.NoMemory h = absurd (h refl)
fault_told p h = (λ e. cc, refl)
