-- What the search for anchors sees of a token.
use Rattle.source_grammar.specs.Tokens.{Kind, a_name, comma, semicolon, colon, left_paren, right_paren, left_brace, right_brace}
use Rattle.source_grammar.specs.Tokens.{left_bracket, int_word, const_word, if_word, else_word, while_word, do_word, for_word, return_word}
use Rattle.source_grammar.specs.Tokens.{step_sign}
use Rattle.acsl_anchors.specs.declared.part.Part.{Part}
use Rattle.acsl_anchors.specs.declared.part.Part.TheVariants as part

-- whether it opens or ends a statement, a block or a parenthesis, makes an array, steps a variable, declares something or names it, by
-- which name
abbrev pub part_of : Kind → Part
part_of (a_name x) = part.Name x.text
part_of comma = part.Comma
part_of semicolon = part.Semicolon
part_of colon = part.Colon
part_of left_paren = part.LeftParen
part_of right_paren = part.RightParen
part_of left_brace = part.LeftBrace
part_of right_brace = part.RightBrace
part_of left_bracket = part.LeftBracket
part_of int_word = part.Int
part_of const_word = part.Const
part_of if_word = part.If
part_of else_word = part.Else
part_of while_word = part.While
part_of do_word = part.Do
part_of for_word = part.For
part_of return_word = part.Return
part_of (step_sign g) = part.Step
part_of _ = part.Other
