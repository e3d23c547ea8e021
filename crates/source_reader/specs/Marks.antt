-- The signs and words that the grammar asks for.
use Rattle.std.specs.Prelude.{Option, Some, None}
use Rattle.source_grammar.specs.Tokens as g
use Rattle.source_grammar.specs.Tokens.{Kind}
use Rattle.source_reader.specs.declared.mark.Mark.{Mark}
use Rattle.source_reader.specs.declared.mark.Mark.TheVariants as mark

-- the mark that a token of this kind is, if it is one
abbrev pub mark_in : Kind → Option Mark
mark_in g.left_paren = Some mark.LeftParen
mark_in g.right_paren = Some mark.RightParen
mark_in g.left_brace = Some mark.LeftBrace
mark_in g.right_brace = Some mark.RightBrace
mark_in g.left_bracket = Some mark.LeftBracket
mark_in g.right_bracket = Some mark.RightBracket
mark_in g.question = Some mark.Question
mark_in g.colon = Some mark.Colon
mark_in g.comma = Some mark.Comma
mark_in g.semicolon = Some mark.Semicolon
mark_in g.int_word = Some mark.Int
mark_in g.const_word = Some mark.Const
mark_in (g.infix_sign g.times_op) = Some mark.Star
mark_in g.else_word = Some mark.Else
mark_in g.while_word = Some mark.While
mark_in _ = None
