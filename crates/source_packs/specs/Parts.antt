-- What the search for groups sees of a token.
use Rattle.std.specs.Prelude.{ℕ, List, Option, Some, None}
use Rattle.source_grammar.specs.Tokens.{Op, or_op, and_op, compare_op, Kind, a_name, infix_sign, question, colon, left_paren, right_paren}
use Rattle.source_grammar.specs.Tokens.{left_brace, right_brace, left_bracket, right_bracket, comma, semicolon, change_sign, step_sign}
use Rattle.source_grammar.specs.Tokens.{int_word, const_word, if_word, else_word, while_word, do_word, for_word}
use Rattle.source_packs.specs.Shapes.{variable_number}
use Rattle.source_packs.specs.declared.part.Part.{Part}
use Rattle.source_packs.specs.declared.part.Part.TheVariants as part

-- a name that is the variable of this number, if it is one
abbrev pub number_part : Option ℕ → Part
number_part None = part.Name
number_part (Some i) = part.Variable i

-- a sign between two sides
abbrev pub op_part : Op → Part
op_part or_op = part.Separator
op_part and_op = part.Separator
op_part (compare_op r) = part.Compare
op_part _ = part.Other

-- whether it is a variable, of those with these names, compares, changes or steps, opens or closes a bracket, parts, or begins a statement
abbrev pub part_of : (names : List (List ℕ)) → Kind → Part
part_of names (a_name x) = number_part (variable_number names x)
part_of names (infix_sign o) = op_part o
part_of names question = part.Separator
part_of names colon = part.Colon
part_of names left_paren = part.LeftParen
part_of names right_paren = part.RightParen
part_of names left_brace = part.LeftBrace
part_of names right_brace = part.RightBrace
part_of names left_bracket = part.LeftBracket
part_of names right_bracket = part.RightBracket
part_of names comma = part.Comma
part_of names semicolon = part.Semicolon
part_of names (change_sign g) = part.Change
part_of names (step_sign g) = part.Step
part_of names int_word = part.Declares
part_of names const_word = part.Declares
part_of names if_word = part.If
part_of names else_word = part.Else
part_of names while_word = part.While
part_of names do_word = part.Do
part_of names for_word = part.For
part_of names _ = part.Other
