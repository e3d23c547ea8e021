-- What a user of tokens may rely on: where they stand, and what each is.
use Rattle.std.specs.Prelude.{◌≡◌, ◌≤◌, ◌<◌, ◌+◌, ◌++◌, ℕ, List, [], ◌∷◌, length, slice_range}
use Rattle.lang_tokens.specs.declared.token.Token.{Token}
use Rattle.lang_tokens.specs.Lexemes.{IsToken}
use Rattle.lang_tokens.specs.Reading.{end_at}

-- a token of the text, at this place or behind it
pub record IsTokenAfter (text : List ℕ) (place : ℕ) (token : Token) : Type 0 where
  pub after : place ≤ token.at
  pub some : 0 < token.len
  pub within : token.at + token.len ≤ length text
  pub is_token : IsToken token.kind (slice_range text token.at (token.at + token.len))

-- tokens of the text, the first at this place or behind it, and each behind the one before it
abbrev pub AreTokensAfter : List ℕ → ℕ → List Token → Type 0
AreTokensAfter text place [] = Unit {0}
AreTokensAfter text place (token ∷ tokens) = IsTokenAfter text place token × AreTokensAfter text (token.at + token.len) tokens

-- tokens of the text in order, and last its end
pub record AreTokensOf (text : List ℕ) (tokens : List Token) : Type 0 where
  pub front : List Token
  pub ended : front ++ end_at (length text) ∷ [] ≡ tokens
  pub placed : AreTokensAfter text 0 front
