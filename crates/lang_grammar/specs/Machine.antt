-- A machine that reads a text token by token: a stack of what has still to come.
use Rattle.std.specs.Prelude.{◌++◌, ℕ, suc, List, [], ◌∷◌, Option, Some, None}
use Rattle.lang_grammar.specs.Grammar.{Op, plus_op, minus_op, replaces, Kind, a_name, a_number, infix_sign, bang, left_paren, right_paren}
use Rattle.lang_grammar.specs.Grammar.{left_brace, right_brace}
use Rattle.lang_grammar.specs.Grammar.{comma, semicolon, colon, change_sign, step_sign, int_word, main_word, void_word, if_word, else_word}
use Rattle.lang_grammar.specs.Grammar.{while_word}
use Rattle.lang_grammar.specs.Grammar.{do_word, for_word, jump_word, return_word, demand_word, nondet_word, the_end, Token, token}

-- what has to stand behind an expression
pub data Ender : Type 0 where
  until_paren : Ender
  until_semicolon : Ender
  -- `,` and a further declarator, or `;`
  until_declared : Ender

-- where a statement stands: under an `if`, an `else`, a loop or a label before it; in a block; in `main`
pub data Place : Type 0 where
  in_sub : Place
  in_block : Place
  in_main : Place

-- a token that alone may stand at its place
pub data Mark : Type 0 where
  opening : Mark
  closing : Mark
  brace_opening : Mark
  brace_closing : Mark
  statement_end : Mark
  main_name : Mark
  int_type : Mark
  text_end : Mark

-- the kind of that token
abbrev pub mark_kind : Mark → Kind
mark_kind opening = left_paren
mark_kind closing = right_paren
mark_kind brace_opening = left_brace
mark_kind brace_closing = right_brace
mark_kind statement_end = semicolon
mark_kind main_name = main_word
mark_kind int_type = int_word
mark_kind text_end = the_end

-- the token that ends an expression with nothing more behind it
abbrev pub ender_mark : Ender → Mark
ender_mark until_paren = closing
ender_mark until_semicolon = statement_end
ender_mark until_declared = statement_end

-- What has to come. Each number is how many constructs are open there; that of `maybe_else` counts its `if`.
pub data Goal : Type 0 where
  operand : ℕ → Goal
  more : Ender → ℕ → Goal
  statement : Place → ℕ → Goal
  after_name : Place → ℕ → Goal
  maybe_else : ℕ → Goal
  condition : ℕ → Goal
  -- the end of a `do`; the head of a `for`, and its parts
  do_end : ℕ → Goal
  header : ℕ → Goal
  header_first : ℕ → Goal
  header_test : ℕ → Goal
  header_last : ℕ → Goal
  -- the sign behind the name of an assignment or a step
  updating : Ender → ℕ → Goal
  declarator : ℕ → Goal
  declared : ℕ → Goal
  some_name : Goal
  parameters : Goal
  returned : Goal
  some_number : Goal
  only : Mark → Goal

-- what becomes of a goal at a token
pub data Entry : Type 0 where
  -- the token is taken, and these have to come next
  takes : List Goal → Entry
  -- nothing is wanted, and the token belongs to what comes below
  skips : Entry
  stops : Entry

-- a sign where an operand has to come
abbrev pub prefix_entry : Op → ℕ → Entry
prefix_entry plus_op d = takes (operand (suc d) ∷ [])
prefix_entry minus_op d = takes (operand (suc d) ∷ [])
prefix_entry _ d = stops

-- a token where an operand has to come
abbrev pub operand_entry : ℕ → Kind → Entry
operand_entry d (a_name x) = takes []
operand_entry d (a_number n) = takes []
operand_entry d (infix_sign o) = prefix_entry o d
operand_entry d bang = takes (operand (suc d) ∷ [])
operand_entry d left_paren = takes (operand (suc d) ∷ more until_paren (suc d) ∷ [])
operand_entry d nondet_word = takes (only opening ∷ only closing ∷ [])
operand_entry d _ = stops

-- a token after an operand
abbrev pub more_entry : Ender → ℕ → Kind → Entry
more_entry e d (infix_sign o) = takes (operand d ∷ more e d ∷ [])
more_entry until_paren d right_paren = takes []
more_entry until_semicolon d semicolon = takes []
more_entry until_declared d semicolon = takes []
more_entry until_declared d comma = takes (declarator d ∷ [])
more_entry e d _ = stops

-- what comes after a whole statement
abbrev pub next : Place → ℕ → List Goal
next in_sub d = []
next in_block d = statement in_block d ∷ []
next in_main d = statement in_main d ∷ []

-- `int` where a statement may stand
abbrev pub declaration_entry : Place → ℕ → Entry
declaration_entry in_sub d = stops
declaration_entry in_block d = takes (declarator d ∷ statement in_block d ∷ [])
declaration_entry in_main d = takes (declarator d ∷ statement in_main d ∷ [])

-- `}` where a statement may stand
abbrev pub close_entry : Place → Entry
close_entry in_sub = stops
close_entry in_block = takes []
close_entry in_main = takes []

-- `return` where a statement may stand
abbrev pub return_entry : Place → Entry
return_entry in_sub = stops
return_entry in_block = stops
return_entry in_main = takes (returned ∷ only statement_end ∷ only brace_closing ∷ [])

-- a token where a statement has to come
abbrev pub statement_entry : Place → ℕ → Kind → Entry
statement_entry p d (a_name x) = takes (after_name p d ∷ next p d)
statement_entry p d semicolon = takes (next p d)
statement_entry p d left_brace = takes (statement in_block (suc d) ∷ next p d)
statement_entry p d right_brace = close_entry p
statement_entry p d int_word = declaration_entry p d
statement_entry p d return_word = return_entry p
statement_entry p d if_word = takes (condition (suc d) ∷ statement in_sub (suc d) ∷ maybe_else (suc d) ∷ next p d)
statement_entry p d while_word = takes (condition (suc d) ∷ statement in_sub (suc d) ∷ next p d)
statement_entry p d do_word = takes (statement in_sub (suc d) ∷ do_end (suc d) ∷ next p d)
statement_entry p d for_word = takes (header (suc d) ∷ statement in_sub (suc d) ∷ next p d)
statement_entry p d (jump_word j) = takes (only statement_end ∷ next p d)
statement_entry p d (demand_word k) = takes (condition d ∷ only statement_end ∷ next p d)
statement_entry p d (step_sign g) = takes (some_name ∷ only statement_end ∷ next p d)
statement_entry p d _ = stops

-- what a label leaves to come
abbrev pub label_entry : Place → ℕ → Entry
label_entry in_sub d = takes (statement in_sub d ∷ [])
label_entry in_block d = takes []
label_entry in_main d = takes []

-- a token after the name of an assignment or a step
abbrev pub updating_entry : Ender → ℕ → Kind → Entry
updating_entry e d (change_sign g) = takes (operand d ∷ more e d ∷ [])
updating_entry e d (step_sign g) = takes (only (ender_mark e) ∷ [])
updating_entry e d _ = stops

-- a token after a name with which a statement begins
abbrev pub name_entry : Place → ℕ → Kind → Entry
name_entry p d colon = label_entry p d
name_entry p d k = updating_entry until_semicolon d k

-- a token where an `else` may come
abbrev pub else_entry : ℕ → Kind → Entry
else_entry d else_word = takes (statement in_sub d ∷ [])
else_entry d _ = skips

-- a token where a condition in parentheses has to come
abbrev pub condition_entry : ℕ → Kind → Entry
condition_entry d left_paren = takes (operand d ∷ more until_paren d ∷ [])
condition_entry d _ = stops

-- a token after the statement of a `do`
abbrev pub do_end_entry : ℕ → Kind → Entry
do_end_entry d while_word = takes (condition d ∷ only statement_end ∷ [])
do_end_entry d _ = stops

-- a token where the head of a `for` has to come
abbrev pub header_entry : ℕ → Kind → Entry
header_entry d left_paren = takes (header_first d ∷ header_test d ∷ header_last d ∷ [])
header_entry d _ = stops

-- an assignment or a step
abbrev pub update_entry : Ender → ℕ → Kind → Entry
update_entry e d (a_name x) = takes (updating e d ∷ [])
update_entry e d (step_sign g) = takes (some_name ∷ only (ender_mark e) ∷ [])
update_entry e d _ = stops

-- a token at the first part of a `for`'s head
abbrev pub first_entry : ℕ → Kind → Entry
first_entry d semicolon = takes []
first_entry d int_word = takes (declarator d ∷ [])
first_entry d k = update_entry until_semicolon d k

-- with one more to come at the end
abbrev pub then_goal : Entry → Goal → Entry
then_goal (takes gs) g = takes (gs ++ g ∷ [])
then_goal skips g = skips
then_goal stops g = stops

-- a token at the condition of a `for`'s head
abbrev pub test_entry : ℕ → Kind → Entry
test_entry d semicolon = takes []
test_entry d k = then_goal (operand_entry d k) (more until_semicolon d)

-- a token at the change of a `for`'s head
abbrev pub last_entry : ℕ → Kind → Entry
last_entry d right_paren = takes []
last_entry d k = update_entry until_paren d k

-- a token where the name of a declarator has to come
abbrev pub declarator_entry : ℕ → Kind → Entry
declarator_entry d (a_name x) = takes (declared d ∷ [])
declarator_entry d _ = stops

-- a token after the name of a declarator
abbrev pub declared_entry : ℕ → Kind → Entry
declared_entry d (change_sign replaces) = takes (operand d ∷ more until_declared d ∷ [])
declared_entry d comma = takes (declarator d ∷ [])
declared_entry d semicolon = takes []
declared_entry d _ = stops

-- a token where a name has to come
abbrev pub some_name_entry : Kind → Entry
some_name_entry (a_name x) = takes []
some_name_entry _ = stops

-- a token between the parentheses of `main`
abbrev pub parameters_entry : Kind → Entry
parameters_entry void_word = takes (only closing ∷ [])
parameters_entry right_paren = takes []
parameters_entry _ = stops

-- a token after `return`
abbrev pub returned_entry : Kind → Entry
returned_entry (infix_sign minus_op) = takes (some_number ∷ [])
returned_entry (a_number n) = takes []
returned_entry _ = stops

-- a token where a number has to come
abbrev pub some_number_entry : Kind → Entry
some_number_entry (a_number n) = takes []
some_number_entry _ = stops

-- a token where one token alone may stand
abbrev pub only_entry : Mark → Kind → Entry
only_entry opening left_paren = takes []
only_entry closing right_paren = takes []
only_entry brace_opening left_brace = takes []
only_entry brace_closing right_brace = takes []
only_entry statement_end semicolon = takes []
only_entry main_name main_word = takes []
only_entry int_type int_word = takes []
only_entry text_end the_end = takes []
only_entry m _ = stops

-- what a goal makes of a token
abbrev pub entry : Goal → Kind → Entry
entry (operand d) k = operand_entry d k
entry (more e d) k = more_entry e d k
entry (statement p d) k = statement_entry p d k
entry (after_name p d) k = name_entry p d k
entry (maybe_else d) k = else_entry d k
entry (condition d) k = condition_entry d k
entry (do_end d) k = do_end_entry d k
entry (header d) k = header_entry d k
entry (header_first d) k = first_entry d k
entry (header_test d) k = test_entry d k
entry (header_last d) k = last_entry d k
entry (updating e d) k = updating_entry e d k
entry (declarator d) k = declarator_entry d k
entry (declared d) k = declared_entry d k
entry some_name k = some_name_entry k
entry parameters k = parameters_entry k
entry returned k = returned_entry k
entry some_number k = some_number_entry k
entry (only m) k = only_entry m k

-- the stack after a token, if it may stand there
abbrev pub step : List Goal → Kind → Option (List Goal)
step [] k = None
step (g ∷ gs) k = elim (entry g k) [ takes next ↦ Some (next ++ gs) | skips ↦ step gs k | stops ↦ None ]

-- the stack after the tokens of a text, if each may stand there
abbrev pub run : List Goal → List Token → Option (List Goal)
run gs [] = Some gs
run gs (token k a ∷ ts) = elim (step gs k) [ None ↦ None | Some next ↦ run next ts ]

-- a whole text has to come
abbrev pub start : List Goal
start = only int_type ∷ only main_name ∷ only opening ∷ parameters ∷ only brace_opening ∷ statement in_main 0 ∷ only text_end ∷ []
