-- Tokens of code stand in their text where all tokens do.
use Rattle.std.proofs.Common.{ℕ, Bool, true, false, List, [], ◌∷◌, cond}
use Rattle.lang_tokens.specs.declared.token.Token.{Token}
use Rattle.source_tokens.specs.Texts.{AreTokensIn}
use Rattle.source_constants.specs.Directives.{code_of, is_code}

-- those of a text do
pub code_in : (text : List ℕ) (ts : List Token) → AreTokensIn text ts → AreTokensIn text (code_of ts)
code_in text [] h = tt
code_in text (t ∷ ts) h = by (is_code t.kind) (code_in text ts h.1) where
  by : (b : Bool) → AreTokensIn text (code_of ts) → AreTokensIn text (cond b (t ∷ code_of ts) (code_of ts))
  by true rest = (h.0, rest)
  by false rest = rest
