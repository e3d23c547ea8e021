-- The tokens of directives.
use Rattle.std.proofs.Common.{ℕ, Bool, true, false, List, [], ◌∷◌, cond}
use Rattle.std.specs.Prelude.{filter}
use Rattle.lang_tokens.specs.declared.token.Token.{Token}
use Rattle.source_tokens.specs.Texts.{AreTokensIn}

-- those that pass a test stand in the text
pub filtered_in : (text : List ℕ) (p : Token → Bool) (ts : List Token) → AreTokensIn text ts → AreTokensIn text (filter p ts)
filtered_in text p [] h = tt
filtered_in text p (t ∷ ts) h = on (p t) (filtered_in text p ts h.1) where
  on : (b : Bool) → AreTokensIn text (filter p ts) → AreTokensIn text (cond b (t ∷ filter p ts) (filter p ts))
  on true rest = (h.0, rest)
  on false rest = rest
