-- What may come next where changes and declarations are read.
use Rattle.std.specs.Prelude.{Bool, true, false, Option, Some, None}
use Rattle.source_grammar.specs.Tokens as g
use Rattle.source_grammar.specs.Tokens.{Kind}
use Rattle.source_grammar.specs.Symbols.{direction_of, change_of}
use Rattle.source_change.specs.declared.nexts.Next.{Next}
use Rattle.source_change.specs.declared.nexts.Next.TheVariants as next

-- what comes next, as far as changes and declarations ask
pub data Following : Type 0 where
  a_name : Following
  a_step : g.Direction → Following
  a_change : g.Change → Following
  a_bracket : Following
  a_comma : Following
  another : Following

-- a token of this kind
abbrev pub next_in : Kind → Following
next_in (g.a_name x) = a_name
next_in (g.step_sign d) = a_step d
next_in (g.change_sign c) = a_change c
next_in g.left_bracket = a_bracket
next_in g.comma = a_comma
next_in k = another

-- what the code says
abbrev pub next_of : Next → Following
next_of next.Name = a_name
next_of (next.Step d) = a_step (direction_of d)
next_of (next.Change c) = a_change (change_of c)
next_of next.Bracket = a_bracket
next_of next.Comma = a_comma
next_of next.Other = another

-- whether a token of this kind is a comma
abbrev pub is_comma : Kind → Bool
is_comma g.comma = true
is_comma k = false

-- whether a token of this kind is a `[`
abbrev pub is_bracket : Kind → Bool
is_bracket g.left_bracket = true
is_bracket k = false

-- whether it is the sign of an assignment
abbrev pub is_assignment : Kind → Bool
is_assignment (g.change_sign c) = true
is_assignment k = false

-- the step that a token of this kind is, if it is one
abbrev pub step_in : Kind → Option g.Direction
step_in (g.step_sign d) = Some d
step_in k = None

-- whether a change begins with it
abbrev pub begins_change : Kind → Bool
begins_change (g.a_name x) = true
begins_change (g.step_sign d) = true
begins_change k = false
