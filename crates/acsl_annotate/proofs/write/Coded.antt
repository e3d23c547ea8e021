-- The tokens of code of a text, with its end, are tokens of it.
use Rattle.std.proofs.Common.{◌≡◌, ◌∙◌, ◌≤◌, ◌+◌, ◌++◌, ◌∷◌, ℕ, Bool, true, false, cond, List, [], length, refl, sym, ap, arith}
use Rattle.std.proofs.lemmas.List.{length-append}
use Rattle.lang_tokens.specs.Reading.{end_at}
use Rattle.lang_tokens.specs.TokenLists.{IsTokenAfter, AreTokensAfter, AreTokensOf}
use Rattle.lang_tokens.specs.declared.token.Token.{Token}
use Rattle.source_constants.specs.Directives.{code_of, is_code}

-- those of tokens and a token of code behind them
pub code_end : (front : List Token) (t : Token) → is_code t.kind ≡ true → code_of (front ++ t ∷ []) ≡ code_of front ++ t ∷ []
code_end [] t h = rw h refl
code_end (x ∷ front) t h = by (is_code x.kind) (code_end front t h)
  where
    by : (b : Bool) → code_of (front ++ t ∷ []) ≡ code_of front ++ t ∷ []
        → cond b (x ∷ code_of (front ++ t ∷ [])) (code_of (front ++ t ∷ [])) ≡ cond b (x ∷ code_of front) (code_of front) ++ t ∷ []
    by true rest = ap (λ (l : List Token). x ∷ l) rest
    by false rest = rest

-- tokens behind a place are behind an earlier one
sooner : (text : List ℕ) (from to : ℕ) (ts : List Token) → from ≤ to → AreTokensAfter text to ts → AreTokensAfter text from ts
sooner text from to [] l h = tt
sooner text from to (t ∷ ts) l h =
    (record { after = omega (arith, l, h.0.after); some = h.0.some; within = h.0.within; is_token = h.0.is_token }, h.1)

-- those of code are behind the place where all are
code_after : (text : List ℕ) (place : ℕ) (ts : List Token) → AreTokensAfter text place ts → AreTokensAfter text place (code_of ts)
code_after text place [] h = tt
code_after text place (t ∷ ts) h = by (is_code t.kind) (code_after text (t.at + t.len) ts h.1)
  where
    by : (b : Bool) → AreTokensAfter text (t.at + t.len) (code_of ts) → AreTokensAfter text place (cond b (t ∷ code_of ts) (code_of ts))
    by true rest = (h.0, rest)
    by false rest = sooner text place (t.at + t.len) (code_of ts) (omega (arith, h.0.after)) rest

-- the tokens of code of a text are tokens of it
pub code_placed : (text : List ℕ) (tokens code : List Token) → code ≡ code_of tokens → AreTokensOf text tokens → AreTokensOf text code
code_placed text tokens code e h = record {
  front = code_of h.front;
  ended = sym (code_end h.front (end_at (length text)) refl) ∙ ap code_of h.ended ∙ sym e;
  placed = code_after text 0 h.front h.placed;
}

-- and there is one more of them than before the end
pub code_length : (text : List ℕ) (tokens code some : List Token) → code ≡ code_of tokens → AreTokensOf text tokens
    → ((front : List Token) → front ++ end_at (length text) ∷ [] ≡ tokens → some ≡ code_of front) → length some ≤ length code
code_length text tokens code some e h found =
    let same : some ≡ code_of h.front = found h.front h.ended in
    let all : code ≡ code_of h.front ++ end_at (length text) ∷ [] =
    e ∙ sym (ap code_of h.ended) ∙ code_end h.front (end_at (length text)) refl in
    omega (
      arith,
      ap (λ (l : List Token). length l) same,
      ap (λ (l : List Token). length l) all,
      length-append (code_of h.front) (end_at (length text) ∷ []),
    )
