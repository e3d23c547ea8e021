-- How the signs are spelled.
use Rattle.std.specs.Prelude.{ℕ, Bool, true, false, List, codes}
use Rattle.lang_tokens.specs.declared.foreign.ForeignSign.{ForeignSign}
use Rattle.lang_tokens.specs.declared.foreign.ForeignSign.TheVariants as foreign
use Rattle.lang_tokens.specs.declared.sign.Sign.{Sign}
use Rattle.lang_tokens.specs.declared.sign.Sign.TheVariants.{LeftParen, RightParen, LeftBrace, RightBrace, Comma, Semicolon, Colon, Assign}
use Rattle.lang_tokens.specs.declared.sign.Sign.TheVariants.{PlusAssign}
use Rattle.lang_tokens.specs.declared.sign.Sign.TheVariants.{MinusAssign, Increment, Decrement, Plus, Minus, Star, Bang, Less, LessEqual}
use Rattle.lang_tokens.specs.declared.sign.Sign.TheVariants.{Greater, GreaterEqual}
use Rattle.lang_tokens.specs.declared.sign.Sign.TheVariants.{EqualEqual, BangEqual, AndAnd, OrOr, Slash, Percent, Question}
use Rattle.lang_tokens.specs.declared.sign.Sign.TheVariants.{LeftBracket, RightBracket, StarAssign, SlashAssign, PercentAssign}

-- the bytes of a sign
abbrev pub sign_bytes : Sign → List ℕ
sign_bytes LeftParen = codes "("
sign_bytes RightParen = codes ")"
sign_bytes LeftBrace = codes "{"
sign_bytes RightBrace = codes "}"
sign_bytes Comma = codes ","
sign_bytes Semicolon = codes ";"
sign_bytes Colon = codes ":"
sign_bytes Assign = codes "="
sign_bytes PlusAssign = codes "+="
sign_bytes MinusAssign = codes "-="
sign_bytes Increment = codes "++"
sign_bytes Decrement = codes "--"
sign_bytes Plus = codes "+"
sign_bytes Minus = codes "-"
sign_bytes Star = codes "*"
sign_bytes Bang = codes "!"
sign_bytes Less = codes "<"
sign_bytes LessEqual = codes "<="
sign_bytes Greater = codes ">"
sign_bytes GreaterEqual = codes ">="
sign_bytes EqualEqual = codes "=="
sign_bytes BangEqual = codes "!="
sign_bytes AndAnd = codes "&&"
sign_bytes OrOr = codes "||"
sign_bytes Slash = codes "/"
sign_bytes Percent = codes "%"
sign_bytes Question = codes "?"
sign_bytes LeftBracket = codes "["
sign_bytes RightBracket = codes "]"
sign_bytes StarAssign = codes "*="
sign_bytes SlashAssign = codes "/="
sign_bytes PercentAssign = codes "%="

-- the bytes of a sign that only C has
abbrev pub foreign_bytes : ForeignSign → List ℕ
foreign_bytes foreign.Dot = codes "."
foreign_bytes foreign.Arrow = codes "->"
foreign_bytes foreign.And = codes "&"
foreign_bytes foreign.Or = codes "|"
foreign_bytes foreign.Caret = codes "^"
foreign_bytes foreign.Tilde = codes "~"
foreign_bytes foreign.ShiftLeft = codes "<<"
foreign_bytes foreign.ShiftRight = codes ">>"
foreign_bytes foreign.Ellipsis = codes "..."
foreign_bytes foreign.AndAssign = codes "&="
foreign_bytes foreign.OrAssign = codes "|="
foreign_bytes foreign.CaretAssign = codes "^="
foreign_bytes foreign.ShiftLeftAssign = codes "<<="
foreign_bytes foreign.ShiftRightAssign = codes ">>="
foreign_bytes foreign.LessColon = codes "<:"
foreign_bytes foreign.ColonGreater = codes ":>"
foreign_bytes foreign.LessPercent = codes "<%"
foreign_bytes foreign.PercentGreater = codes "%>"
foreign_bytes foreign.PercentColon = codes "%:"

-- C writes `[ ] { } #` so, too
abbrev pub is_second_spelling : ForeignSign → Bool
is_second_spelling foreign.LessColon = true
is_second_spelling foreign.ColonGreater = true
is_second_spelling foreign.LessPercent = true
is_second_spelling foreign.PercentGreater = true
is_second_spelling foreign.PercentColon = true
is_second_spelling sign = false
