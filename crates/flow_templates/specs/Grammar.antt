-- How a line spells a row: tokens of the language, and what they amount to.
use Rattle.std.specs.Prelude.{◌≡◌, ◌==◌, ◌+◌, ◌++◌, ◌⊎◌, ℕ, ℤ, pos, neg_ℤ, Bool, true, false, if◌then◌else◌, IsFalse, List, [], ◌∷◌, map}
use Rattle.std.specs.Prelude.{slice_range, Option}
use Rattle.std.specs.Prelude.{Some, None, unwrap_or}
use Rattle.std.specs.List.{list_any}
use Rattle.lang_tokens.specs.declared.lexicon.Lexicon.TheVariants.{Own}
use Rattle.lang_tokens.specs.declared.token.Token.{Token}
use Rattle.lang_tokens.specs.declared.token.Kind.{Kind}
use Rattle.lang_tokens.specs.declared.token.Kind.TheVariants as kind
use Rattle.lang_tokens.specs.declared.sign.Sign.TheVariants as sign
use Rattle.lang_tokens.specs.Reading.{Reads}

-- what the grammar of rows tells of a token
pub data Symbol : Type 0 where
  plus : Symbol
  minus : Symbol
  times : Symbol
  number : ℤ → Symbol
  named : List ℕ → Symbol
  end : Symbol
  other : Symbol

-- the symbol of a token of this kind with these bytes
abbrev pub symbol_with : Kind → List ℕ → Symbol
symbol_with (kind.Sign sign.Plus) bytes = plus
symbol_with (kind.Sign sign.Minus) bytes = minus
symbol_with (kind.Sign sign.Star) bytes = times
symbol_with (kind.Sign s) bytes = other
symbol_with (kind.Number value) bytes = number value
symbol_with kind.Name bytes = named bytes
symbol_with kind.End bytes = end
symbol_with (kind.Word word) bytes = other
symbol_with (kind.Foreign sort) bytes = other
symbol_with (kind.Aside sort) bytes = other

-- the symbol of a token of this line
abbrev pub symbol_of : List ℕ → Token → Symbol
symbol_of line token = symbol_with token.kind (slice_range line token.at (token.at + token.len))

-- the symbols of tokens of this line
abbrev pub symbols_of : List ℕ → List Token → List Symbol
symbols_of line tokens = map (symbol_of line) tokens

-- a term as it is written: its sign, the number before its `*` if there is one, and its name
pub record Written : Type 0 where
  pub negative : Bool
  pub factor : Option ℤ
  pub name : List ℕ

-- the sign of a term
abbrev pub sign_symbol : Bool → Symbol
sign_symbol true = minus
sign_symbol false = plus

-- the number before a `*` and the `*`, if there is one
abbrev pub factor_symbols : Option ℤ → List Symbol
factor_symbols None = []
factor_symbols (Some factor) = number factor ∷ times ∷ []

-- a term without its sign: `3 * x`, or `x`
abbrev pub unsigned_symbols : Written → List Symbol
unsigned_symbols t = factor_symbols t.factor ++ named t.name ∷ []

-- a term with its sign
abbrev pub signed_symbols : Written → List Symbol
signed_symbols t = sign_symbol t.negative ∷ unsigned_symbols t

-- terms with their signs, and then the end of the line
abbrev pub tail_symbols : List Written → List Symbol
tail_symbols [] = end ∷ []
tail_symbols (t ∷ ts) = signed_symbols t ++ tail_symbols ts

-- Symbols spell a row of these terms: one at least, each with its sign, but that the first may go without a `+`.
abbrev pub Spells : List Symbol → List Written → Type 0
Spells symbols [] = ⊥
Spells symbols (t ∷ ts) = (symbols ≡ tail_symbols (t ∷ ts)) ⊎ ((t.negative ≡ false) × (symbols ≡ unsigned_symbols t ++ tail_symbols ts))

-- what a term stands for: its coefficient and its name
abbrev pub Amount : Type 0
Amount = ℤ × List ℕ

-- a factor with the sign of its term
abbrev pub signed : Bool → ℤ → ℤ
signed negative factor = if negative then neg_ℤ factor else factor

-- what a written term stands for
abbrev pub amount : Written → Amount
amount t = (signed t.negative (unwrap_or t.factor (pos 1)), t.name)

-- The line reads as a row of terms that stand for this. Tokens are those of the language; a row has no comment.
pub record ReadsTerms (line : List ℕ) (amounts : List Amount) : Type 0 where
  pub no_slash : IsFalse (list_any (λ b. b == 47) line)
  pub tokens : List Token
  pub reads : Reads Own line tokens
  pub terms : List Written
  pub spelled : Spells (symbols_of line tokens) terms
  pub stand_for : map amount terms ≡ amounts
