-- What the reading of a transition system sees of tokens.
use Rattle.std.specs.Prelude.{◌+◌, ◌≤◌, ℕ, List, [], length, slice_range, slice_get, Option, Some, None}
use Rattle.base_limits.specs.declared.limits.TheConstants.{MOST_TEXT_BYTES}
use Rattle.lang_tokens.specs.declared.token.Token.{Token}
use Rattle.lang_tokens.specs.declared.token.Kind.{Kind}
use Rattle.lang_tokens.specs.declared.token.Kind.TheVariants as kind
use Rattle.lang_tokens.specs.declared.word.Word.{Word}
use Rattle.lang_tokens.specs.declared.word.Word.TheVariants as word
use Rattle.lang_tokens.specs.declared.sign.Sign.{Sign}
use Rattle.lang_tokens.specs.declared.sign.Sign.TheVariants as sign
use Rattle.lang_tokens.specs.Lines.{line_at}
use Rattle.lang_tokens.specs.TokenLists.{AreTokensOf}
use Rattle.flow_transitions.specs.declared.reading.symbol.Symbol.{Symbol}
use Rattle.flow_transitions.specs.declared.reading.symbol.Symbol.TheVariants.{Name, Assume, Comma, Semicolon, Equal, LeftParen, RightParen}
use Rattle.flow_transitions.specs.declared.reading.symbol.Symbol.TheVariants.{LeftBrace, RightBrace, End, Other}

-- the signs that stand outside expressions
abbrev pub sign_symbol : Sign → Symbol
sign_symbol sign.Comma = Comma
sign_symbol sign.Semicolon = Semicolon
sign_symbol sign.Assign = Equal
sign_symbol sign.LeftParen = LeftParen
sign_symbol sign.RightParen = RightParen
sign_symbol sign.LeftBrace = LeftBrace
sign_symbol sign.RightBrace = RightBrace
sign_symbol s = Other

-- of the reserved words `assume` alone
abbrev pub word_symbol : Word → Symbol
word_symbol word.Assume = Assume
word_symbol w = Other

-- the symbol of a token of this kind
abbrev pub symbol_of : Kind → Symbol
symbol_of kind.Name = Name
symbol_of (kind.Word w) = word_symbol w
symbol_of (kind.Sign s) = sign_symbol s
symbol_of kind.End = End
symbol_of (kind.Number n) = Other
symbol_of (kind.Foreign f) = Other
symbol_of (kind.Aside a) = Other

-- a token as the reading sees it: its symbol, its bytes, its line and its place
pub record Seen : Type 0 where
  pub symbol : Symbol
  pub bytes : List ℕ
  pub line : ℕ
  pub at : ℕ

abbrev pub seen : List ℕ → Token → Seen
seen text t = record { symbol = symbol_of t.kind; bytes = slice_range text t.at (t.at + t.len); line = line_at text t.at; at = t.at }

-- the token of this number, and the end where there is none
abbrev pub seen_or_end : List ℕ → Option Token → Seen
seen_or_end text (Some t) = seen text t
seen_or_end text None = record { symbol = End; bytes = []; line = line_at text (length text); at = length text }

abbrev pub seen_at : List ℕ → List Token → ℕ → Seen
seen_at text tokens i = seen_or_end text (slice_get tokens i)

-- a text that isn't too long, and its tokens
pub record IsSource (text : List ℕ) (tokens : List Token) : Type 0 where
  pub size : length text ≤ MOST_TEXT_BYTES
  pub tokens_of : AreTokensOf text tokens
  pub few : length tokens ≤ MOST_TEXT_BYTES + 1
