-- Where a change, a declarator, a condition, a call or an expression ends, as far as its brackets say.
use Rattle.std.specs.Prelude.{◌≡◌, ◌≤◌, ◌+◌, ℕ, zero, suc, Bool, true, false, List, [], ◌∷◌, Option, Some, None}
use Rattle.lang_tokens.specs.declared.token.Token as lex_token
use Rattle.source_tokens.specs.View.{kind_of}
use Rattle.source_grammar.specs.Tokens as g
use Rattle.source_grammar.specs.Tokens.{Kind, Token, token}
use Rattle.source_reader.specs.declared.units.Turn.{Turn}
use Rattle.source_reader.specs.declared.units.Turn.TheVariants.{Opens, Closes, Parts, Stays}

-- whether a token of this kind opens a bracket, closes one, parts what stands beside it, or does none of this
abbrev pub turn_in : Kind → Turn
turn_in g.left_paren = Opens
turn_in g.left_bracket = Opens
turn_in g.left_brace = Opens
turn_in g.right_paren = Closes
turn_in g.right_bracket = Closes
turn_in g.right_brace = Closes
turn_in g.comma = Parts
turn_in g.semicolon = Parts
turn_in k = Stays

-- that of a token
abbrev pub turn_of : Token → Turn
turn_of (token k a) = turn_in k

-- a token of this kind may stand behind a unit: it closes a bracket that was open before, or parts it from what comes
abbrev pub ends_turn : Turn → Bool
ends_turn Opens = false
ends_turn Closes = true
ends_turn Parts = true
ends_turn Stays = false

-- so for its kind
abbrev pub ends_unit : Kind → Bool
ends_unit k = ends_turn (turn_in k)

-- how many tokens stand before the first that ends the unit, at this depth in brackets that opened in it
abbrev pub unit_length : (depth : ℕ) → List Turn → ℕ
unit_length depth [] = 0
unit_length zero (Opens ∷ ts) = suc (unit_length 1 ts)
unit_length zero (Closes ∷ ts) = 0
unit_length zero (Parts ∷ ts) = 0
unit_length zero (Stays ∷ ts) = suc (unit_length zero ts)
unit_length (suc depth) (Opens ∷ ts) = suc (unit_length (suc (suc depth)) ts)
unit_length (suc depth) (Closes ∷ ts) = suc (unit_length depth ts)
unit_length (suc depth) (Parts ∷ ts) = suc (unit_length (suc depth) ts)
unit_length (suc depth) (Stays ∷ ts) = suc (unit_length (suc depth) ts)

-- at this depth, behind one more token the unit goes on at another, or has ended before it
abbrev pub Goes : (depth : ℕ) → Turn → Option ℕ → Type 0
Goes depth t None = (ts : List Turn) → unit_length depth (t ∷ ts) ≡ 0
Goes depth t (Some next) = ((ts : List Turn) → unit_length depth (t ∷ ts) ≡ suc (unit_length next ts)) × (next ≤ depth + 1)

-- the turn of a token of the code
abbrev pub code_turn : lex_token.Token → Turn
code_turn t = turn_in (kind_of [] None t.kind)
