-- Tokens of a text, and which of them spell names.
use Rattle.std.specs.Prelude.{◌≤◌, ◌+◌, ℕ, List, [], ◌∷◌, length}
use Rattle.lang_tokens.specs.declared.token.Aside.TheVariants as aside
use Rattle.lang_tokens.specs.declared.token.Kind as kind
use Rattle.lang_tokens.specs.declared.token.Token.{Token}
use Rattle.lang_tokens.specs.Lexemes.{IsToken}
use Rattle.source_tokens.specs.View.{bytes_of}

-- The token stands in the text, and its bytes there are a token of its kind.
pub record IsTokenIn (text : List ℕ) (t : Token) : Type 0 where
  pub within : t.at + t.len ≤ length text
  pub is_token : IsToken t.kind (bytes_of text t)

-- Each of these tokens does.
abbrev pub AreTokensIn : (text : List ℕ) → List Token → Type 0
AreTokensIn text [] = Unit {0}
AreTokensIn text (t ∷ ts) = IsTokenIn text t × AreTokensIn text ts

-- a token of this kind is a word of at most 32 bytes: a name, or reserved
abbrev pub IsNaming : kind.Kind → Type 0
IsNaming kind.TheVariants.Name = Unit {0}
IsNaming (kind.TheVariants.Word word) = Unit {0}
IsNaming (kind.TheVariants.Aside aside.Name) = Unit {0}
IsNaming (kind.TheVariants.Aside (aside.Word word)) = Unit {0}
IsNaming sort = ⊥
