-- What may come next where statements are read.
use Rattle.std.specs.Prelude.{Bool, true, false, List}
use Rattle.source_grammar.specs.Tokens as g
use Rattle.source_grammar.specs.Tokens.{Kind, Token}
use Rattle.source_grammar.specs.Symbols.{jump_of, demand_of}
use Rattle.source_reader.specs.Reading.{behind_first, first_kind}
use Rattle.source_statement.specs.declared.starts.Start.{Start}
use Rattle.source_statement.specs.declared.starts.Start.TheVariants as start

-- what comes next, as far as statements ask
pub data Begins : Type 0 where
  a_block : Begins
  an_if : Begins
  a_while : Begins
  a_do : Begins
  a_for : Begins
  a_jump : g.Jump → Begins
  a_return : Begins
  a_demand : g.Demand → Begins
  a_semicolon : Begins
  a_name : Begins
  a_step : Begins
  a_type : Begins
  a_star : Begins
  a_bracket : Begins
  a_void : Begins
  an_else : Begins
  a_colon : Begins
  a_paren : Begins
  a_comma : Begins
  a_closing : Begins
  a_storage : Begins
  another : Begins

-- a token of this kind
abbrev pub start_in : Kind → Begins
start_in g.left_brace = a_block
start_in g.if_word = an_if
start_in g.while_word = a_while
start_in g.do_word = a_do
start_in g.for_word = a_for
start_in (g.jump_word j) = a_jump j
start_in g.return_word = a_return
start_in (g.demand_word k) = a_demand k
start_in g.semicolon = a_semicolon
start_in (g.a_name x) = a_name
start_in (g.step_sign d) = a_step
start_in g.int_word = a_type
start_in g.const_word = a_type
start_in (g.infix_sign g.times_op) = a_star
start_in g.left_bracket = a_bracket
start_in g.void_word = a_void
start_in g.else_word = an_else
start_in g.colon = a_colon
start_in g.left_paren = a_paren
start_in g.comma = a_comma
start_in g.right_brace = a_closing
start_in g.storage_word = a_storage
start_in k = another

-- what the code says
abbrev pub start_of : Start → Begins
start_of start.Block = a_block
start_of start.If = an_if
start_of start.While = a_while
start_of start.Do = a_do
start_of start.For = a_for
start_of (start.Jump j) = a_jump (jump_of j)
start_of start.Return = a_return
start_of (start.Demand k) = a_demand (demand_of k)
start_of start.Semicolon = a_semicolon
start_of start.Name = a_name
start_of start.Step = a_step
start_of start.Type = a_type
start_of start.Star = a_star
start_of start.Bracket = a_bracket
start_of start.Void = a_void
start_of start.Else = an_else
start_of start.Colon = a_colon
start_of start.Paren = a_paren
start_of start.Comma = a_comma
start_of start.Closing = a_closing
start_of start.Storage = a_storage
start_of start.Other = another

-- whether a label begins with these two
abbrev pub is_label : Begins → Begins → Bool
is_label a_name a_colon = true
is_label a_name b = false
is_label a b = false

-- whether a label comes first among tokens
abbrev pub begins_label : List Token → Bool
begins_label ts = is_label (start_in (first_kind ts)) (start_in (first_kind (behind_first ts)))

-- whether a `}` does
abbrev pub is_closing : Begins → Bool
is_closing a_closing = true
is_closing b = false

-- whether a token of this kind is `const`
abbrev pub is_const : Kind → Bool
is_const g.const_word = true
is_const k = false

-- whether a token of this kind is a `]`
abbrev pub closes : Kind → Bool
closes g.right_bracket = true
closes k = false
