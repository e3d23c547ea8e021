-- The tokens of a text stand in it.
use Rattle.std.proofs.Common.{◌≡◌, ◌∙◌, ◌++◌, ◌-◌, ◌+◌, ◌<◌, ℕ, zero, suc, List, [], ◌∷◌, length, take, drop, get_or, Some, refl, sym}
use Rattle.std.proofs.Common.{subst}
use Rattle.std.proofs.Common.{arith}
use Rattle.std.specs.Prelude.{slice_range}
use Rattle.std.specs.List.{slice_get}
use Rattle.lang_tokens.specs.declared.token.Token.{Token}
use Rattle.lang_tokens.specs.Reading.{end_at}
use Rattle.lang_tokens.specs.TokenLists.{AreTokensAfter, AreTokensOf}
use Rattle.source_tokens.specs.Texts.{IsTokenIn, AreTokensIn}

placed_in : (text : List ℕ) (place : ℕ) (ts : List Token) → AreTokensAfter text place ts → AreTokensIn text ts
placed_in text place [] h = tt
placed_in text place (t ∷ ts) h =
    (record { within = h.0.within; is_token = h.0.is_token }, placed_in text (t.at + t.len) ts h.1)

-- two lists with one more element are the same only where the lists are
pub front_same : {A : Type 0} (xs ys : List A) (x y : A) → xs ++ x ∷ [] ≡ ys ++ y ∷ [] → xs ≡ ys
front_same [] [] x y e = refl
front_same [] (y ∷ []) x z e = cc
front_same [] (y ∷ w ∷ ys) x z e = cc
front_same (x ∷ []) [] y z e = cc
front_same (x ∷ w ∷ xs) [] y z e = cc
front_same (x ∷ xs) (y ∷ ys) z w e =
    let rest : xs ≡ ys = front_same xs ys z w (cc) in cc

-- the tokens of a text but its end stand in it
pub front_in : (text : List ℕ) (ts front : List Token) → AreTokensOf text ts → front ++ end_at (length text) ∷ [] ≡ ts
    → AreTokensIn text front
front_in text ts front h e =
    let same : h.front ≡ front = front_same h.front front (end_at (length text)) (end_at (length text)) (h.ended ∙ sym e) in
    subst (AreTokensIn text) same (placed_in text 0 h.front h.placed)

-- each of tokens that stand in a text does
pub token_in : (text : List ℕ) (ts : List Token) (index : ℕ) (t : Token) → AreTokensIn text ts → slice_get ts index ≡ Some t
    → IsTokenIn text t
token_in text [] index t h e = cc
token_in text (u ∷ ts) zero t h e = let same : u ≡ t = cc in subst (IsTokenIn text) same h.0
token_in text (u ∷ ts) (suc index) t h e = token_in text ts index t h.1 e

-- those behind some do
pub dropped : (text : List ℕ) (ts : List Token) (n : ℕ) → AreTokensIn text ts → AreTokensIn text (drop n ts)
dropped text ts zero h = h
dropped text [] (suc n) h = h
dropped text (t ∷ ts) (suc n) h = dropped text ts n h.1

-- and the first of them do
pub taken : (text : List ℕ) (ts : List Token) (n : ℕ) → AreTokensIn text ts → AreTokensIn text (take n ts)
taken text ts zero h = tt
taken text [] (suc n) h = tt
taken text (t ∷ ts) (suc n) h = (h.0, taken text ts n h.1)

-- and some of them do
pub range_in : (text : List ℕ) (ts : List Token) (from to : ℕ) → AreTokensIn text ts → AreTokensIn text (slice_range ts from to)
range_in text ts from to h = taken text (drop from ts) (to - from) (dropped text ts from h)

-- each of them by its number does
pub each_in : (text : List ℕ) (ts : List Token) (index : ℕ) (d : Token) → AreTokensIn text ts → index < length ts
    → IsTokenIn text (get_or ts index d)
each_in text [] index d h l = absurd (omega arith)
each_in text (u ∷ ts) zero d h l = h.0
each_in text (u ∷ ts) (suc index) d h l = each_in text ts index d h.1 (omega arith)
