-- A machine that reads a function token by token: a stack of what has still to come.
use Rattle.std.specs.Prelude.{◌++◌, ℕ, suc, List, [], ◌∷◌, Option, Some, None}
use Rattle.source_grammar.specs.Tokens.{Op, plus_op, minus_op, times_op, replaces, Kind, a_name, a_number, infix_sign, bang, question}
use Rattle.source_grammar.specs.Tokens.{colon, left_paren, right_paren, left_brace, right_brace, left_bracket, right_bracket, comma}
use Rattle.source_grammar.specs.Tokens.{semicolon, change_sign, step_sign, int_word, void_word, main_word, storage_word, const_word}
use Rattle.source_grammar.specs.Tokens.{if_word, else_word, while_word, do_word, for_word, jump_word, return_word, demand_word, nondet_word}
use Rattle.source_grammar.specs.Tokens.{Token, token}

-- where a statement stands: under an `if`, an `else`, a loop or a label before it; or in a block
pub data Site : Type 0 where
  in_sub : Site
  in_block : Site

-- a token that alone may stand where it is wanted
pub data Mark : Type 0 where
  opening : Mark
  closing : Mark
  brace_opening : Mark
  brace_closing : Mark
  bracket_closing : Mark
  colon_mark : Mark
  statement_end : Mark
  int_type : Mark

-- the kind of that token
abbrev pub mark_kind : Mark → Kind
mark_kind opening = left_paren
mark_kind closing = right_paren
mark_kind brace_opening = left_brace
mark_kind brace_closing = right_brace
mark_kind bracket_closing = right_bracket
mark_kind colon_mark = colon
mark_kind statement_end = semicolon
mark_kind int_type = int_word

-- What has to come, or may come. Each number is how many constructs are open there; that of `maybe_else` counts its `if`.
pub data Goal : Type 0 where
  -- an operand; what may follow its name; what may follow an operand in its expression
  operand : ℕ → Goal
  named : ℕ → Goal
  more : ℕ → Goal
  -- an expression, if there is one
  maybe_expr : ℕ → Goal
  -- the arguments of a call, if there are any; those behind the first
  maybe_arguments : ℕ → Goal
  more_arguments : ℕ → Goal
  -- further brackets of an element or a place, if there are any; the sign behind a place
  indexing : ℕ → Goal
  effect : ℕ → Goal
  -- a change; those behind the first; changes, if there are any
  changing : ℕ → Goal
  more_changes : ℕ → Goal
  maybe_changes : ℕ → Goal
  -- a declarator; what may stand behind its name; the declarators behind the first
  declaring : ℕ → Goal
  initialising : ℕ → Goal
  more_declarators : ℕ → Goal
  -- further brackets of a declared array, and its values, if there are any; these in their braces; what stands between these; what may
  -- follow a value
  sizing : ℕ → Goal
  filling : ℕ → Goal
  maybe_values : ℕ → Goal
  more_values : ℕ → Goal
  -- a statement; what stands behind the name with which it begins
  statement : Site → ℕ → Goal
  after_name : Site → ℕ → Goal
  maybe_else : ℕ → Goal
  condition : ℕ → Goal
  -- the end of a `do`; the head of a `for`, its first part, and the rest from the first `;` on
  do_end : ℕ → Goal
  header : ℕ → Goal
  header_first : ℕ → Goal
  header_rest : ℕ → Goal
  -- the parts of a function
  specifiers : Goal
  function_name : Goal
  parameters : Goal
  more_parameters : Goal
  -- `int` or `const int`; a parameter without it; the brackets behind its name, if there are any; those behind the first
  some_type : Goal
  parameter_name : Goal
  bounding : Goal
  more_sizes : Goal
  some_name : Goal
  some_size : Goal
  maybe_size : Goal
  only : Mark → Goal

-- what becomes of a goal at a token
pub data Entry : Type 0 where
  -- the token is taken, and these have to come next
  takes : List Goal → Entry
  -- nothing is wanted, and the token belongs to what comes below
  skips : Entry
  stops : Entry

-- a sign where an operand has to come
abbrev pub prefix_entry : Op → ℕ → Entry
prefix_entry plus_op d = takes (operand (suc d) ∷ [])
prefix_entry minus_op d = takes (operand (suc d) ∷ [])
prefix_entry _ d = stops

-- a token where an operand has to come
abbrev pub operand_entry : ℕ → Kind → Entry
operand_entry d (a_name x) = takes (named d ∷ [])
operand_entry d (a_number n) = takes []
operand_entry d (infix_sign o) = prefix_entry o d
operand_entry d bang = takes (operand (suc d) ∷ [])
operand_entry d left_paren = takes (operand (suc d) ∷ more (suc d) ∷ only closing ∷ [])
operand_entry d (step_sign g) = takes (some_name ∷ [])
operand_entry d nondet_word = takes (only opening ∷ only closing ∷ [])
operand_entry d _ = stops

-- a token after the name of an operand
abbrev pub named_entry : ℕ → Kind → Entry
named_entry d left_paren = takes (maybe_arguments (suc d) ∷ only closing ∷ [])
named_entry d left_bracket = takes (operand (suc d) ∷ more (suc d) ∷ only bracket_closing ∷ indexing d ∷ [])
named_entry d (step_sign g) = takes []
named_entry d _ = skips

-- A token after an operand. What stands behind the `:` of a `?` goes on to the end of the whole expression.
abbrev pub more_entry : ℕ → Kind → Entry
more_entry d (infix_sign o) = takes (operand d ∷ more d ∷ [])
more_entry d question = takes (operand (suc d) ∷ more (suc d) ∷ only colon_mark ∷ operand (suc d) ∷ more (suc d) ∷ [])
more_entry d _ = skips

-- with these to come at the end, and nothing taken where the token may not stand
abbrev pub or_nothing : Entry → List Goal → Entry
or_nothing (takes gs) hs = takes (gs ++ hs)
or_nothing skips hs = skips
or_nothing stops hs = skips

-- a token where an expression may come
abbrev pub maybe_expr_entry : ℕ → Kind → Entry
maybe_expr_entry d k = or_nothing (operand_entry d k) (more d ∷ [])

-- a token where arguments may come
abbrev pub maybe_arguments_entry : ℕ → Kind → Entry
maybe_arguments_entry d k = or_nothing (operand_entry d k) (more d ∷ more_arguments d ∷ [])

-- a token after an argument
abbrev pub more_arguments_entry : ℕ → Kind → Entry
more_arguments_entry d comma = takes (operand d ∷ more d ∷ more_arguments d ∷ [])
more_arguments_entry d _ = skips

-- a token after the name of a place, or after brackets of a place or an element
abbrev pub indexing_entry : ℕ → Kind → Entry
indexing_entry d left_bracket = takes (operand (suc d) ∷ more (suc d) ∷ only bracket_closing ∷ indexing d ∷ [])
indexing_entry d _ = skips

-- a token after a place
abbrev pub effect_entry : ℕ → Kind → Entry
effect_entry d (change_sign g) = takes (operand d ∷ more d ∷ [])
effect_entry d (step_sign g) = takes []
effect_entry d _ = stops

-- a token where a change has to come
abbrev pub changing_entry : ℕ → Kind → Entry
changing_entry d (a_name x) = takes (indexing d ∷ effect d ∷ [])
changing_entry d (step_sign g) = takes (some_name ∷ indexing d ∷ [])
changing_entry d _ = stops

-- a token after a change
abbrev pub more_changes_entry : ℕ → Kind → Entry
more_changes_entry d comma = takes (changing d ∷ more_changes d ∷ [])
more_changes_entry d _ = skips

-- a token where changes may come
abbrev pub maybe_changes_entry : ℕ → Kind → Entry
maybe_changes_entry d k = or_nothing (changing_entry d k) (more_changes d ∷ [])

-- a token where the name of a declarator has to come
abbrev pub declaring_entry : ℕ → Kind → Entry
declaring_entry d (a_name x) = takes (initialising d ∷ [])
declaring_entry d _ = stops

-- a token after the name of a declarator
abbrev pub initialising_entry : ℕ → Kind → Entry
initialising_entry d (change_sign replaces) = takes (operand d ∷ more d ∷ [])
initialising_entry d left_bracket = takes (some_size ∷ only bracket_closing ∷ sizing d ∷ [])
initialising_entry d _ = skips

-- a token after brackets of a declared array
abbrev pub sizing_entry : ℕ → Kind → Entry
sizing_entry d (change_sign replaces) = takes (filling d ∷ [])
sizing_entry d left_bracket = takes (some_size ∷ only bracket_closing ∷ sizing d ∷ [])
sizing_entry d _ = skips

-- a token where values in braces have to come
abbrev pub filling_entry : ℕ → Kind → Entry
filling_entry d left_brace = takes (maybe_values (suc d) ∷ only brace_closing ∷ [])
filling_entry d _ = stops

-- a token in braces where a value may stand
abbrev pub maybe_values_entry : ℕ → Kind → Entry
maybe_values_entry d left_brace = takes (maybe_values (suc d) ∷ only brace_closing ∷ more_values d ∷ [])
maybe_values_entry d k = or_nothing (operand_entry d k) (more d ∷ more_values d ∷ [])

-- a token after a value; behind the comma there may be none
abbrev pub more_values_entry : ℕ → Kind → Entry
more_values_entry d comma = takes (maybe_values d ∷ [])
more_values_entry d _ = skips

-- a token after a declarator
abbrev pub more_declarators_entry : ℕ → Kind → Entry
more_declarators_entry d comma = takes (declaring d ∷ more_declarators d ∷ [])
more_declarators_entry d _ = skips

-- what comes after a whole statement
abbrev pub next : Site → ℕ → List Goal
next in_sub d = []
next in_block d = statement in_block d ∷ []

-- `int` where a statement may stand
abbrev pub declaration_entry : Site → ℕ → Entry
declaration_entry in_sub d = stops
declaration_entry in_block d = takes (declaring d ∷ more_declarators d ∷ only statement_end ∷ statement in_block d ∷ [])

-- `const` where a statement may stand
abbrev pub const_entry : Site → ℕ → Entry
const_entry in_sub d = stops
const_entry in_block d =
    takes (only int_type ∷ declaring d ∷ more_declarators d ∷ only statement_end ∷ statement in_block d ∷ [])

-- `}` where a statement may stand
abbrev pub close_entry : Site → Entry
close_entry in_sub = stops
close_entry in_block = takes []

-- a token where a statement has to come
abbrev pub statement_entry : Site → ℕ → Kind → Entry
statement_entry p d (a_name x) = takes (after_name p d ∷ next p d)
statement_entry p d semicolon = takes (next p d)
statement_entry p d left_brace = takes (statement in_block (suc d) ∷ next p d)
statement_entry p d right_brace = close_entry p
statement_entry p d int_word = declaration_entry p d
statement_entry p d const_word = const_entry p d
statement_entry p d if_word = takes (condition (suc d) ∷ statement in_sub (suc d) ∷ maybe_else (suc d) ∷ next p d)
statement_entry p d while_word = takes (condition (suc d) ∷ statement in_sub (suc d) ∷ next p d)
statement_entry p d do_word = takes (statement in_sub (suc d) ∷ do_end (suc d) ∷ next p d)
statement_entry p d for_word = takes (header (suc d) ∷ statement in_sub (suc d) ∷ next p d)
statement_entry p d (jump_word j) = takes (only statement_end ∷ next p d)
statement_entry p d return_word = takes (maybe_expr d ∷ only statement_end ∷ next p d)
statement_entry p d (demand_word k) = takes (condition d ∷ only statement_end ∷ next p d)
statement_entry p d (step_sign g) = takes (some_name ∷ indexing d ∷ only statement_end ∷ next p d)
statement_entry p d _ = stops

-- what a label leaves to come
abbrev pub label_entry : Site → ℕ → Entry
label_entry in_sub d = takes (statement in_sub d ∷ [])
label_entry in_block d = takes []

-- a token after a name with which a statement begins
abbrev pub name_entry : Site → ℕ → Kind → Entry
name_entry p d colon = label_entry p d
name_entry p d left_paren = takes (maybe_arguments (suc d) ∷ only closing ∷ only statement_end ∷ [])
name_entry p d left_bracket =
    takes (operand (suc d) ∷ more (suc d) ∷ only bracket_closing ∷ indexing d ∷ effect d ∷ only statement_end ∷ [])
name_entry p d (change_sign g) = takes (operand d ∷ more d ∷ only statement_end ∷ [])
name_entry p d (step_sign g) = takes (only statement_end ∷ [])
name_entry p d _ = stops

-- a token where an `else` may come
abbrev pub else_entry : ℕ → Kind → Entry
else_entry d else_word = takes (statement in_sub d ∷ [])
else_entry d _ = skips

-- a token where a condition in parentheses has to come
abbrev pub condition_entry : ℕ → Kind → Entry
condition_entry d left_paren = takes (operand d ∷ more d ∷ only closing ∷ [])
condition_entry d _ = stops

-- a token after the statement of a `do`
abbrev pub do_end_entry : ℕ → Kind → Entry
do_end_entry d while_word = takes (condition d ∷ only statement_end ∷ [])
do_end_entry d _ = stops

-- a token where the head of a `for` has to come
abbrev pub header_entry : ℕ → Kind → Entry
header_entry d left_paren = takes (header_first d ∷ header_rest d ∷ [])
header_entry d _ = stops

-- a token at the first part of a `for`'s head
abbrev pub first_entry : ℕ → Kind → Entry
first_entry d int_word = takes (declaring d ∷ more_declarators d ∷ [])
first_entry d const_word = takes (only int_type ∷ declaring d ∷ more_declarators d ∷ [])
first_entry d k = maybe_changes_entry d k

-- a token after that part
abbrev pub rest_entry : ℕ → Kind → Entry
rest_entry d semicolon = takes (maybe_expr d ∷ only statement_end ∷ maybe_changes d ∷ only closing ∷ [])
rest_entry d _ = stops

-- a token before a function's name
abbrev pub specifiers_entry : Kind → Entry
specifiers_entry storage_word = takes (specifiers ∷ [])
specifiers_entry int_word = takes []
specifiers_entry void_word = takes []
specifiers_entry _ = stops

-- a token where a function's name has to come
abbrev pub function_name_entry : Kind → Entry
function_name_entry (a_name x) = takes []
function_name_entry main_word = takes []
function_name_entry _ = stops

-- a token between a function's parentheses
abbrev pub parameters_entry : Kind → Entry
parameters_entry void_word = takes []
parameters_entry int_word = takes (parameter_name ∷ more_parameters ∷ [])
parameters_entry const_word = takes (only int_type ∷ parameter_name ∷ more_parameters ∷ [])
parameters_entry _ = skips

-- a token after a parameter
abbrev pub more_parameters_entry : Kind → Entry
more_parameters_entry comma = takes (some_type ∷ parameter_name ∷ more_parameters ∷ [])
more_parameters_entry _ = skips

-- a token where `int` or `const int` has to come
abbrev pub some_type_entry : Kind → Entry
some_type_entry int_word = takes []
some_type_entry const_word = takes (only int_type ∷ [])
some_type_entry _ = stops

-- `*` where a parameter's name may stand
abbrev pub pointer_entry : Op → Entry
pointer_entry times_op = takes (some_name ∷ [])
pointer_entry _ = stops

-- a token after the type of a parameter
abbrev pub parameter_name_entry : Kind → Entry
parameter_name_entry (a_name x) = takes (bounding ∷ [])
parameter_name_entry (infix_sign o) = pointer_entry o
parameter_name_entry _ = stops

-- a token after the name of a parameter
abbrev pub bounding_entry : Kind → Entry
bounding_entry left_bracket = takes (maybe_size ∷ only bracket_closing ∷ more_sizes ∷ [])
bounding_entry _ = skips

-- a token after brackets of a parameter
abbrev pub more_sizes_entry : Kind → Entry
more_sizes_entry left_bracket = takes (some_size ∷ only bracket_closing ∷ more_sizes ∷ [])
more_sizes_entry _ = skips

-- a token where a name has to come
abbrev pub some_name_entry : Kind → Entry
some_name_entry (a_name x) = takes []
some_name_entry _ = stops

-- a token where the size of an array has to come
abbrev pub some_size_entry : Kind → Entry
some_size_entry (a_number n) = takes []
some_size_entry (a_name x) = takes []
some_size_entry _ = stops

-- a token where the size of an array may come
abbrev pub maybe_size_entry : Kind → Entry
maybe_size_entry (a_number n) = takes []
maybe_size_entry (a_name x) = takes []
maybe_size_entry _ = skips

-- a token where one token alone may stand
abbrev pub only_entry : Mark → Kind → Entry
only_entry opening left_paren = takes []
only_entry closing right_paren = takes []
only_entry brace_opening left_brace = takes []
only_entry brace_closing right_brace = takes []
only_entry bracket_closing right_bracket = takes []
only_entry colon_mark colon = takes []
only_entry statement_end semicolon = takes []
only_entry int_type int_word = takes []
only_entry m _ = stops

-- what a goal makes of a token
abbrev pub entry : Goal → Kind → Entry
entry (operand d) k = operand_entry d k
entry (named d) k = named_entry d k
entry (more d) k = more_entry d k
entry (maybe_expr d) k = maybe_expr_entry d k
entry (maybe_arguments d) k = maybe_arguments_entry d k
entry (more_arguments d) k = more_arguments_entry d k
entry (indexing d) k = indexing_entry d k
entry (effect d) k = effect_entry d k
entry (changing d) k = changing_entry d k
entry (more_changes d) k = more_changes_entry d k
entry (maybe_changes d) k = maybe_changes_entry d k
entry (declaring d) k = declaring_entry d k
entry (initialising d) k = initialising_entry d k
entry (more_declarators d) k = more_declarators_entry d k
entry (sizing d) k = sizing_entry d k
entry (filling d) k = filling_entry d k
entry (maybe_values d) k = maybe_values_entry d k
entry (more_values d) k = more_values_entry d k
entry (statement p d) k = statement_entry p d k
entry (after_name p d) k = name_entry p d k
entry (maybe_else d) k = else_entry d k
entry (condition d) k = condition_entry d k
entry (do_end d) k = do_end_entry d k
entry (header d) k = header_entry d k
entry (header_first d) k = first_entry d k
entry (header_rest d) k = rest_entry d k
entry specifiers k = specifiers_entry k
entry function_name k = function_name_entry k
entry parameters k = parameters_entry k
entry more_parameters k = more_parameters_entry k
entry some_type k = some_type_entry k
entry parameter_name k = parameter_name_entry k
entry bounding k = bounding_entry k
entry more_sizes k = more_sizes_entry k
entry some_name k = some_name_entry k
entry some_size k = some_size_entry k
entry maybe_size k = maybe_size_entry k
entry (only m) k = only_entry m k

-- the stack after a token, if it may stand there
abbrev pub step : List Goal → Kind → Option (List Goal)
step [] k = None
step (g ∷ gs) k = elim (entry g k) [ takes next ↦ Some (next ++ gs) | skips ↦ step gs k | stops ↦ None ]

-- the stack after tokens, if each may stand there
abbrev pub run : List Goal → List Token → Option (List Goal)
run gs [] = Some gs
run gs (token k a ∷ ts) = elim (step gs k) [ None ↦ None | Some next ↦ run next ts ]

-- a whole function has to come
abbrev pub start : List Goal
start = specifiers ∷ function_name ∷ only opening ∷ parameters ∷ only closing ∷ only brace_opening ∷ statement in_block 0 ∷ []
