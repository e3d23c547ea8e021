-- What the code's symbols stand for.
use Rattle.std.specs.Prelude.{[], None}
use Rattle.source_grammar.specs.Tokens.{Relation, Op, Change, Direction, Jump, Demand, Name, Kind}
use Rattle.source_grammar.specs.Tokens as g
use Rattle.source_grammar.specs.declared.symbol.Relation as code_relation
use Rattle.source_grammar.specs.declared.symbol.Op as code_op
use Rattle.source_grammar.specs.declared.symbol.Change as code_change
use Rattle.source_grammar.specs.declared.symbol.Direction as code_direction
use Rattle.source_grammar.specs.declared.symbol.Jump as code_jump
use Rattle.source_grammar.specs.declared.symbol.Demand as code_demand
use Rattle.source_grammar.specs.declared.symbol.Symbol as code_symbol

-- what a comparison of the code stands for
abbrev pub relation_of : code_relation.Relation → Relation
relation_of code_relation.TheVariants.Equal = g.equal
relation_of code_relation.TheVariants.Unequal = g.unequal
relation_of code_relation.TheVariants.Less = g.less
relation_of code_relation.TheVariants.AtMost = g.at_most
relation_of code_relation.TheVariants.Greater = g.greater
relation_of code_relation.TheVariants.AtLeast = g.at_least

-- what a sign of the code stands for
abbrev pub op_of : code_op.Op → Op
op_of code_op.TheVariants.Or = g.or_op
op_of code_op.TheVariants.And = g.and_op
op_of (code_op.TheVariants.Compare r) = g.compare_op (relation_of r)
op_of code_op.TheVariants.Plus = g.plus_op
op_of code_op.TheVariants.Minus = g.minus_op
op_of code_op.TheVariants.Times = g.times_op
op_of code_op.TheVariants.Over = g.over_op
op_of code_op.TheVariants.Remainder = g.remainder_op

-- what an assignment of the code stands for
abbrev pub change_of : code_change.Change → Change
change_of code_change.TheVariants.Replaces = g.replaces
change_of code_change.TheVariants.Adds = g.adds
change_of code_change.TheVariants.Subtracts = g.subtracts
change_of code_change.TheVariants.Multiplies = g.multiplies
change_of code_change.TheVariants.Divides = g.divides
change_of code_change.TheVariants.Remains = g.remains

-- what a step of the code stands for
abbrev pub direction_of : code_direction.Direction → Direction
direction_of code_direction.TheVariants.Up = g.up
direction_of code_direction.TheVariants.Down = g.down

-- what a jump of the code stands for
abbrev pub jump_of : code_jump.Jump → Jump
jump_of code_jump.TheVariants.Breaks = g.breaks
jump_of code_jump.TheVariants.Continues = g.continues

-- what `assume` or `assert` of the code stands for
abbrev pub demand_of : code_demand.Demand → Demand
demand_of code_demand.TheVariants.Assumes = g.assumes
demand_of code_demand.TheVariants.Asserts = g.asserts

-- a name without its text, and no constant
abbrev pub nameless : Name
nameless = record { text = []; value = None }

-- what a symbol of the code stands for, with no name and the number 0
abbrev pub symbol_kind : code_symbol.Symbol → Kind
symbol_kind code_symbol.TheVariants.Name = g.a_name nameless
symbol_kind code_symbol.TheVariants.Number = g.a_number 0
symbol_kind (code_symbol.TheVariants.Infix o) = g.infix_sign (op_of o)
symbol_kind code_symbol.TheVariants.Bang = g.bang
symbol_kind code_symbol.TheVariants.Question = g.question
symbol_kind code_symbol.TheVariants.Colon = g.colon
symbol_kind code_symbol.TheVariants.LeftParen = g.left_paren
symbol_kind code_symbol.TheVariants.RightParen = g.right_paren
symbol_kind code_symbol.TheVariants.LeftBrace = g.left_brace
symbol_kind code_symbol.TheVariants.RightBrace = g.right_brace
symbol_kind code_symbol.TheVariants.LeftBracket = g.left_bracket
symbol_kind code_symbol.TheVariants.RightBracket = g.right_bracket
symbol_kind code_symbol.TheVariants.Comma = g.comma
symbol_kind code_symbol.TheVariants.Semicolon = g.semicolon
symbol_kind (code_symbol.TheVariants.Change c) = g.change_sign (change_of c)
symbol_kind (code_symbol.TheVariants.Step d) = g.step_sign (direction_of d)
symbol_kind code_symbol.TheVariants.Int = g.int_word
symbol_kind code_symbol.TheVariants.Void = g.void_word
symbol_kind code_symbol.TheVariants.Main = g.main_word
symbol_kind code_symbol.TheVariants.Storage = g.storage_word
symbol_kind code_symbol.TheVariants.Const = g.const_word
symbol_kind code_symbol.TheVariants.If = g.if_word
symbol_kind code_symbol.TheVariants.Else = g.else_word
symbol_kind code_symbol.TheVariants.While = g.while_word
symbol_kind code_symbol.TheVariants.Do = g.do_word
symbol_kind code_symbol.TheVariants.For = g.for_word
symbol_kind (code_symbol.TheVariants.Jump j) = g.jump_word (jump_of j)
symbol_kind code_symbol.TheVariants.Return = g.return_word
symbol_kind (code_symbol.TheVariants.Demand k) = g.demand_word (demand_of k)
symbol_kind code_symbol.TheVariants.Nondet = g.nondet_word
symbol_kind code_symbol.TheVariants.Other = g.other_sign
