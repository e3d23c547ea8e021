-- What tokens are without their names, constants and numbers, and which tokens pieces of the code stand for.
use Rattle.std.specs.Prelude.{◌≡◌, List, map}
use Rattle.source_grammar.specs.Tokens.{Kind, a_name, a_number, Token, token}
use Rattle.source_grammar.specs.Symbols.{nameless, symbol_kind}
use Rattle.source_grammar.specs.declared.symbol.Piece as code_piece

-- a kind without its name or number
abbrev pub plain_kind : Kind → Kind
plain_kind (a_name x) = a_name nameless
plain_kind (a_number n) = a_number 0
plain_kind k = k

-- a token without its name or number
abbrev pub plain_token : Token → Token
plain_token (token k a) = token (plain_kind k) a

-- the token of a piece, without a name or number
abbrev pub token_of : code_piece.Piece → Token
token_of p = token (symbol_kind p.symbol) p.at

-- These tokens have the symbols and the places of the pieces, whatever their names and numbers are.
abbrev pub Are : List Token → List code_piece.Piece → Type 0
Are tokens pieces = map plain_token tokens ≡ map token_of pieces
