-- Which tokens a text has, and how many.
use Rattle.std.proofs.Common.{◌≡◌, ◌∙◌, ℕ, zero, suc, ◌+◌, ◌<◌, ◌≤◌, List, [], ◌∷◌, ◌++◌, length, refl, sym, ap, subst, ⊎_elim, arith}
use Rattle.std.proofs.Common.{length-append}
use Rattle.std.specs.Prelude.{IsTrue, slice_get, slice_range, Some}
use Rattle.std.proofs.lemmas.Bool.{cases_lt}
use Rattle.base_limits.specs.declared.limits.TheConstants.{MOST_TEXT_BYTES}
use Rattle.lang_tokens.specs.declared.token.Token.{Token}
use Rattle.lang_tokens.specs.declared.token.Kind.{Kind}
use Rattle.lang_tokens.specs.declared.token.Kind.TheVariants as kind
use Rattle.lang_tokens.specs.declared.word.Word.{Word}
use Rattle.lang_tokens.specs.declared.word.Word.TheVariants as word
use Rattle.lang_tokens.specs.declared.sign.Sign.{Sign}
use Rattle.lang_tokens.specs.declared.sign.Sign.TheVariants as sign
use Rattle.lang_tokens.specs.Reading.{end_at}
use Rattle.lang_tokens.specs.TokenLists.{AreTokensAfter, AreTokensOf}
use Rattle.lang_tree.specs.Word.{is_word}
use Rattle.lang_meaning.specs.Proper.{IsWordIn, IsProper, AllProper}
use Rattle.lang_meaning.proofs.proper.Lexed.{all_proper}
use Rattle.flow_transitions.specs.declared.reading.symbol.Symbol.TheVariants.{Name, End}
use Rattle.flow_transitions.specs.AutoSymbols.{sign_symbol, word_symbol, symbol_of, seen_or_end, seen_at, IsSource}

-- ---- how many tokens there are
front_few : (text : List ℕ) (place : ℕ) (ts : List Token) → place ≤ length text → AreTokensAfter text place ts
    → place + length ts ≤ length text
front_few text place [] l h = omega (arith, l)
front_few text place (t ∷ ts) l h = omega (arith, h.0.after, h.0.some, h.0.within, front_few text (t.at + t.len) ts h.0.within h.1)

-- a text has no more tokens than bytes, but for the end
pub source_of : (text : List ℕ) (tokens : List Token) → length text ≤ MOST_TEXT_BYTES → AreTokensOf text tokens → IsSource text tokens
source_of text tokens short h = record {
  size = short;
  tokens_of = h;
  few = omega (
    arith,
    ap length h.ended,
    length-append h.front (end_at (length text) ∷ []),
    front_few text 0 h.front (omega arith) h.placed,
  );
}

-- there is a first token
pub some_token : (text : List ℕ) (tokens : List Token) → AreTokensOf text tokens → 0 < length tokens
some_token text tokens h = omega (arith, ap length h.ended, length-append h.front (end_at (length text) ∷ []))

-- ---- the last one is the end
last_end : (front : List Token) (e : Token) (i : ℕ) → i ≡ length front → slice_get (front ++ e ∷ []) i ≡ Some e
last_end [] e zero h = refl
last_end [] e (suc i) h = absurd (omega arith)
last_end (t ∷ ts) e zero h = absurd (omega arith)
last_end (t ∷ ts) e (suc i) h = last_end ts e i (omega arith)

-- behind a token that isn't the end there is another one
pub not_last : (text : List ℕ) (tokens : List Token) (i : ℕ) → AreTokensOf text tokens → i < length tokens
    → ((seen_at text tokens i).symbol ≡ End → ⊥) → i + 1 < length tokens
not_last text tokens i h l n =
    ⊎_elim
    (λ (k : i < length h.front). omega (arith, ap length h.ended, length-append h.front (end_at (length text) ∷ [])))
    (λ (k : length h.front ≤ i).
    let size = length-append h.front (end_at (length text) ∷ []) in
    let same : i ≡ length h.front = omega (arith, ap length h.ended, size) in
    let last = ap (λ ts. slice_get ts i) (sym h.ended) ∙ last_end h.front (end_at (length text)) i same in
    absurd (n (ap (λ o. (seen_or_end text o).symbol) last)))
    (cases_lt i (length h.front))

-- ---- names
word_no_name : (w : Word) → word_symbol w ≡ Name → ⊥
word_no_name word.Assume h = absurd cc
word_no_name w h = absurd cc

sign_no_name : (s : Sign) → sign_symbol s ≡ Name → ⊥
sign_no_name sign.Comma h = absurd cc
sign_no_name sign.Semicolon h = absurd cc
sign_no_name sign.Assign h = absurd cc
sign_no_name sign.LeftParen h = absurd cc
sign_no_name sign.RightParen h = absurd cc
sign_no_name sign.LeftBrace h = absurd cc
sign_no_name sign.RightBrace h = absurd cc
sign_no_name s h = absurd cc

named : (k : Kind) (text : List ℕ) (t : Token) → symbol_of k ≡ Name → IsWordIn k text t
    → (t.at + t.len ≤ length text) × IsTrue (is_word (slice_range text t.at (t.at + t.len)))
named kind.Name text t h p = p
named (kind.Word w) text t h p = absurd (word_no_name w h)
named (kind.Sign s) text t h p = absurd (sign_no_name s h)
named kind.End text t h p = absurd cc
named (kind.Number n) text t h p = absurd cc
named (kind.Foreign f) text t h p = absurd cc
named (kind.Aside s) text t h p = absurd cc

-- a token's bytes
pub proper_of : (text : List ℕ) (ts : List Token) (i : ℕ) (t : Token) → slice_get ts i ≡ Some t → AllProper text ts → IsProper text t
proper_of text [] i t e p = absurd cc
proper_of text (u ∷ ts) zero t e p = subst (IsProper text) (let same : u ≡ t = cc in same) p.0
proper_of text (u ∷ ts) (suc i) t e p = proper_of text ts i t e p.1

-- a name's bytes stand in the text and make a word
pub name_proper : (text : List ℕ) (tokens : List Token) (i : ℕ) (t : Token) → AreTokensOf text tokens → slice_get tokens i ≡ Some t
    → (seen_at text tokens i).symbol ≡ Name →
    (t.at + t.len ≤ length text) × IsTrue (is_word (slice_range text t.at (t.at + t.len)))
name_proper text tokens i t h e n =
    named t.kind text t (sym (ap (λ o. (seen_or_end text o).symbol) e) ∙ n) (proper_of text tokens i t e (all_proper text tokens h))
