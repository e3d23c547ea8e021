-- What the grammar of equations sees of tokens.
use Rattle.std.specs.Prelude.{◌≤◌, ◌+◌, ℕ, ℤ, pos, negsuc, if◌then◌else◌, List, [], ◌∷◌, length, map, slice_range, codes}
use Rattle.std.specs.Str.{bytes_eq}
use Rattle.lang_tokens.specs.declared.token.Token.{Token}
use Rattle.lang_tokens.specs.declared.token.Kind.{Kind}
use Rattle.lang_tokens.specs.declared.token.Kind.TheVariants as kind
use Rattle.lang_tokens.specs.declared.sign.Sign.{Sign}
use Rattle.lang_tokens.specs.declared.sign.Sign.TheVariants as sign
use Rattle.lang_tree.specs.Word.{is_word}
use Rattle.flow_rationals.specs.declared.reading.symbol.Symbol.{Symbol}
use Rattle.flow_rationals.specs.declared.reading.symbol.Symbol.TheVariants.{Named, Number, Minus, Plus, Star, Colon, Comma, Semicolon}
use Rattle.flow_rationals.specs.declared.reading.symbol.Symbol.TheVariants.{Equal}
use Rattle.flow_rationals.specs.declared.reading.symbol.Symbol.TheVariants.{LeftParen, RightParen, Max, Min, End, Other}

-- the value of a literal, which is at least 0
abbrev pub literal : ℤ → ℕ
literal (pos n) = n
literal (negsuc n) = 0

-- `max`, `min`, or a name; each name that the lexer tells is a word of at most 32 bytes
abbrev pub word_symbol : List ℕ → ℕ → Symbol
word_symbol bytes at =
    if bytes_eq bytes (codes "max") then Max
    else if bytes_eq bytes (codes "min") then Min
    else if is_word bytes then Named bytes at else Other

-- the signs that stand in equations
abbrev pub sign_symbol : Sign → ℕ → Symbol
sign_symbol sign.Minus at = Minus at
sign_symbol sign.Plus at = Plus
sign_symbol sign.Star at = Star
sign_symbol sign.Colon at = Colon
sign_symbol sign.Comma at = Comma
sign_symbol sign.Semicolon at = Semicolon
sign_symbol sign.Assign at = Equal
sign_symbol sign.LeftParen at = LeftParen
sign_symbol sign.RightParen at = RightParen
sign_symbol s at = Other

-- the symbol of a token of this kind with these bytes at this place
abbrev pub symbol_with : Kind → List ℕ → ℕ → Symbol
symbol_with kind.Name bytes at = word_symbol bytes at
symbol_with (kind.Number value) bytes at = Number (literal value) at
symbol_with (kind.Sign s) bytes at = sign_symbol s at
symbol_with kind.End bytes at = End
symbol_with (kind.Word word) bytes at = Other
symbol_with (kind.Foreign sort) bytes at = Other
symbol_with (kind.Aside sort) bytes at = Other

-- the symbol of a token of this text
abbrev pub symbol_of : List ℕ → Token → Symbol
symbol_of text token = symbol_with token.kind (slice_range text token.at (token.at + token.len)) token.at

-- the symbols of tokens of this text
abbrev pub symbols_of : List ℕ → List Token → List Symbol
symbols_of text tokens = map (symbol_of text) tokens

-- each token stands within the text
abbrev pub AllWithin : List ℕ → List Token → Type 0
AllWithin text [] = Unit {0}
AllWithin text (token ∷ tokens) = (token.at + token.len ≤ length text) × AllWithin text tokens
