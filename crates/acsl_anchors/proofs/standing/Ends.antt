-- Behind which places of a text's tokens no `/` ends.
use Rattle.std.proofs.Common.{◌≡◌, ◌∙◌, ◌≤◌, ◌<◌, ◌+◌, ◌++◌, ◌∷◌, ℕ, zero, suc, List, [], length, get_or, ap, arith}
use Rattle.lang_tokens.specs.declared.sign.Sign.TheVariants.{Slash}
use Rattle.lang_tokens.specs.declared.token.Kind as lex_kind
use Rattle.lang_tokens.specs.declared.token.Token.{Token}
use Rattle.lang_tokens.specs.Reading.{end_at}
use Rattle.lang_tokens.specs.TokenLists.{IsTokenAfter, AreTokensAfter}
use Rattle.acsl_comments.specs.Places.{IsBehindNoSlash}

-- the token is a `/`
abbrev pub IsSlash : Token → Type 0
IsSlash t = t.kind ≡ lex_kind.TheVariants.Sign Slash

-- none of these is a `/` that ends at the place
abbrev pub EndsApart : ℕ → List Token → Type 0
EndsApart place [] = Unit {0}
EndsApart place (t ∷ ts) = (IsSlash t → t.at + t.len ≡ place → ⊥) × EndsApart place ts

-- the same by their indexes
apart_at : (place : ℕ) (ts : List Token) → EndsApart place ts → (k : ℕ) (d : Token) → k < length ts → IsSlash (get_or ts k d)
    → (get_or ts k d).at + (get_or ts k d).len ≡ place → ⊥
apart_at place [] h k d i s e = absurd (omega arith)
apart_at place (t ∷ ts) h zero d i s e = h.0 s e
apart_at place (t ∷ ts) h (suc k) d i s e = apart_at place ts h.1 k d (omega (arith, i)) s e

-- So no `/` is right before the place.
pub behind_no_slash : (place : ℕ) (ts : List Token) → EndsApart place ts → IsBehindNoSlash ts place
behind_no_slash place ts h t (k, i, e) s f =
    apart_at place ts h k t i (ap (λ (x : Token). x.kind) e ∙ s) (ap (λ (x : Token). x.at + x.len) e ∙ f)

-- nor with the end of the text behind them
pub apart_end : (place n : ℕ) (ts : List Token) → EndsApart place ts → EndsApart place (ts ++ end_at n ∷ [])
apart_end place n [] h = (λ s e. cc, tt)
apart_end place n (t ∷ ts) h = (h.0, apart_end place n ts h.1)

module _ (text : List ℕ) where
  -- What begins at the place or behind it ends behind it.
  later_apart : (place : ℕ) (ts : List Token) (q : ℕ) → AreTokensAfter text q ts → place ≤ q → EndsApart place ts
  later_apart place [] q h i = tt
  later_apart place (t ∷ ts) q h i = (
    λ s e. absurd (omega (arith, h.0.after, h.0.some, i, e)),
    later_apart place ts (t.at + t.len) h.1 (omega (arith, h.0.after, i)),
  )

  -- the first place of tokens isn't behind any of them
  first_at : (xs : List Token) (t : Token) (ys : List Token) (q : ℕ) → AreTokensAfter text q (xs ++ t ∷ ys) → q ≤ t.at
  first_at [] t ys q h = h.0.after
  first_at (x ∷ xs) t ys q h = let i = first_at xs t ys (x.at + x.len) h.1 in omega (arith, h.0.after, i)

  -- What ends at the end of a token that is no `/` is that token.
  pub after_token : (xs : List Token) (t : Token) (ys : List Token) (q : ℕ) → AreTokensAfter text q (xs ++ t ∷ ys) → (IsSlash t → ⊥)
      → 0 < t.len → EndsApart (t.at + t.len) (xs ++ t ∷ ys)
  after_token [] t ys q h n some = (λ s e. n s, later_apart (t.at + t.len) ys (t.at + t.len) h.1 (omega arith))
  after_token (x ∷ xs) t ys q h n some = (
    λ s e. let i = first_at xs t ys (x.at + x.len) h.1 in absurd (omega (arith, i, e, some)),
    after_token xs t ys (x.at + x.len) h.1 n some,
  )

  -- a place before two tokens is before the second
  ahead : (xs : List Token) (u t : Token) (ys : List Token) (q : ℕ) → AreTokensAfter text q (xs ++ u ∷ t ∷ ys) → q < t.at
  ahead [] u t ys q h = omega (arith, h.0.after, h.0.some, h.1.0.after)
  ahead (x ∷ xs) u t ys q h = let i = ahead xs u t ys (x.at + x.len) h.1 in omega (arith, h.0.after, i)

  -- What ends where a token begins is the token before it, if that.
  pub before_token : (xs : List Token) (u t : Token) (ys : List Token) (q : ℕ) → AreTokensAfter text q (xs ++ u ∷ t ∷ ys)
      → (IsSlash u → ⊥) → EndsApart t.at (xs ++ u ∷ t ∷ ys)
  before_token [] u t ys q h n = (
    λ s e. n s,
    (λ s e. absurd (omega (arith, h.1.0.some, e)), later_apart t.at ys (t.at + t.len) h.1.1 (omega arith)),
  )
  before_token (x ∷ xs) u t ys q h n = (
    λ s e. let i = ahead xs u t ys (x.at + x.len) h.1 in absurd (omega (arith, i, e)),
    before_token xs u t ys (x.at + x.len) h.1 n,
  )

  -- a token that stands behind others
  pub token_in : (xs : List Token) (t : Token) (ys : List Token) (q : ℕ) → AreTokensAfter text q (xs ++ t ∷ ys)
      → (place : ℕ) × IsTokenAfter text place t
  token_in [] t ys q h = (q, h.0)
  token_in (x ∷ xs) t ys q h = token_in xs t ys (x.at + x.len) h.1

  -- and one right behind another
  pub next_in : (xs : List Token) (u t : Token) (ys : List Token) (q : ℕ) → AreTokensAfter text q (xs ++ u ∷ t ∷ ys)
      → IsTokenAfter text (u.at + u.len) t
  next_in [] u t ys q h = h.1.0
  next_in (x ∷ xs) u t ys q h = next_in xs u t ys (x.at + x.len) h.1
