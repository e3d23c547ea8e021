-- Signs of the code.
use Rattle.std.specs.Prelude.{ℕ, Bool, true, false, nat_le, Option, Some, None, if◌then◌else◌}
use Rattle.source_grammar.specs.Tokens as g
use Rattle.source_grammar.specs.Tokens.{Op, Kind, level}
use Rattle.source_expression.specs.declared.signs.Prefix.{Prefix}
use Rattle.source_expression.specs.declared.signs.Prefix.TheVariants.{Negative, Positive, Negation}
use Rattle.source_tree.specs.Expressions.{Direction, up}
use Rattle.source_meaning.specs.Expressions.{direction_of, rel_of}
use Rattle.source_value.specs.declared.operation.Operation.TheVariants as operation
use Rattle.source_expression.specs.declared.signs.Work.{Work}
use Rattle.source_expression.specs.declared.signs.Work.TheVariants as work
use Rattle.source_expression.specs.declared.signs.Opening.{Opening}
use Rattle.source_expression.specs.declared.signs.Opening.TheVariants as opening

-- the sign before an operand that one of the code is
abbrev pub prefix_of : Prefix → g.Prefix
prefix_of Negative = g.negative
prefix_of Positive = g.positive
prefix_of Negation = g.negation

-- the sign that a token is, if it holds its sides no looser than this level
abbrev pub sign_in : (least : ℕ) → Kind → Option Op
sign_in least (g.infix_sign o) = if nat_le least (level o) then Some o else None
sign_in least k = None

-- what a sign does with its sides, as the code has it
abbrev pub work_in : Op → Work
work_in g.or_op = work.Either
work_in g.and_op = work.Both
work_in (g.compare_op r) = work.Compare (rel_of r)
work_in g.plus_op = work.Operate operation.Plus
work_in g.minus_op = work.Operate operation.Minus
work_in g.times_op = work.Operate operation.Times
work_in g.over_op = work.Operate operation.Over
work_in g.remainder_op = work.Operate operation.Remainder

-- it asks for conditions as its sides
abbrev pub asks_conditions : Work → Bool
asks_conditions work.Either = true
asks_conditions work.Both = true
asks_conditions (work.Compare rel) = false
asks_conditions (work.Operate o) = false

-- an expression, in which no sign holds looser than this level, goes on with such a token
abbrev pub goes_on : (least : ℕ) → Kind → Bool
goes_on least (g.infix_sign o) = nat_le least (level o)
goes_on least g.left_paren = true
goes_on least g.left_bracket = true
goes_on least (g.step_sign d) = true
goes_on least k = false

-- where a step goes whose sign is this token; up of another
abbrev pub direction_in : Kind → Direction
direction_in (g.step_sign d) = direction_of d
direction_in k = up

-- how an operand begins with a name and such a token
abbrev pub named : Kind → Opening
named g.left_bracket = opening.Element
named g.left_paren = opening.Call
named (g.step_sign d) = opening.SteppedBehind
named k = opening.Variable

-- how one begins with a sign that also stands between two sides
abbrev pub prefix_in : Op → Option Opening
prefix_in g.plus_op = Some (opening.Prefixed Positive)
prefix_in g.minus_op = Some (opening.Prefixed Negative)
prefix_in _ = None

-- how an operand begins with two such tokens, if one may
abbrev pub opening_in : Kind → Kind → Option Opening
opening_in (g.a_number n) k = Some opening.Number
opening_in (g.a_name x) k = Some (named k)
opening_in (g.step_sign d) k = Some opening.SteppedBefore
opening_in g.nondet_word k = Some opening.Unknown
opening_in g.left_paren k = Some opening.Grouped
opening_in g.bang k = Some (opening.Prefixed Negation)
opening_in (g.infix_sign o) k = prefix_in o
opening_in j k = None

-- the token is `?`
abbrev pub is_question : Kind → Bool
is_question g.question = true
is_question k = false

-- the token is `,`
abbrev pub is_comma : Kind → Bool
is_comma g.comma = true
is_comma k = false

-- the token is `)`
abbrev pub is_closing : Kind → Bool
is_closing g.right_paren = true
is_closing k = false

-- the token is a name
abbrev pub is_name : Kind → Bool
is_name (g.a_name x) = true
is_name k = false

-- the token is `{`
abbrev pub is_brace : Kind → Bool
is_brace g.left_brace = true
is_brace k = false

-- the token is `}`
abbrev pub is_brace_end : Kind → Bool
is_brace_end g.right_brace = true
is_brace_end k = false
