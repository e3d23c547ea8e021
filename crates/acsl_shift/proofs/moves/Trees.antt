-- A function's tree whose tokens stand at other places.
use Rattle.std.proofs.Common.{ℕ}
use Rattle.source_grammar.specs.Expressions.{Expr, Arguments, MoreArguments, Optional, Index, Place, Effect, Update, MoreUpdates, Updates}
use Rattle.source_grammar.specs.Grammar.{Initialiser, Declarator, MoreDeclarators, Declarators, ForFirst, Core, Sub, Items, Specifiers}
use Rattle.source_grammar.specs.Expressions.{number, variable, element, call, free, grouped}
use Rattle.source_grammar.specs.Grammar.{FunctionName, MoreParameters, Parameters, Function}
use Rattle.source_grammar.specs.Expressions.{prefixed, joined, chosen, no_arguments, arguments, last_argument, next_argument, absent}
use Rattle.source_grammar.specs.Expressions.{present}
use Rattle.source_grammar.specs.Expressions.{no_index, index, place, assigns, steps, update, step_before, last_update, next_update}
use Rattle.source_grammar.specs.Expressions.{no_updates}
use Rattle.source_grammar.specs.Expressions.{some_updates}
use Rattle.source_grammar.specs.Grammar.{bare, given, sized, declarator, last_declarator, next_declarator, declares}
use Rattle.source_grammar.specs.Grammar.{declared_first, updated_first, empty, block, if_alone, if_else, repeat, repeat_after, repeat_for}
use Rattle.source_grammar.specs.Grammar.{jumps, returns, demands, calls, updates, labelled, plain, no_items, label, declaration, item}
use Rattle.source_grammar.specs.Grammar.{gives_int, gives_void, storage, called, called_main, last_parameter, next_parameter, no_parameters}
use Rattle.source_grammar.specs.Grammar.{void_parameters, some_parameters, function}
use Rattle.source_grammar.specs.Expressions.{stepped_behind, stepped_before, Subscripts, last_subscript, next_subscript}
use Rattle.source_grammar.specs.Grammar.{Size, number_size}
use Rattle.source_grammar.specs.Grammar.{name_size, Sizes, last_size, next_size, Value, one_value, braced, Values, no_values, values}
use Rattle.source_grammar.specs.Grammar.{MoreValues, last_value, last_comma, next_value, filled, IntType, plain_int, const_int, Bounds}
use Rattle.source_grammar.specs.Grammar.{sized_bounds, open_bound, open_bounds, Parameter, number_parameter, pointer_parameter}
use Rattle.source_grammar.specs.Grammar.{array_parameter}

module _ (to : ℕ → ℕ) where
  abbrev mutual
    -- an expression at other places
    pub move_expr : Expr → Expr
    move_expr (number a b) = number a (to b)
    move_expr (variable a b) = variable a (to b)
    move_expr (element a b c) = element a (to b) (move_subscripts c)
    move_expr (call a b c d e) = call a (to b) (to c) (move_arguments d) (to e)
    move_expr (stepped_behind a b c d) = stepped_behind a (to b) c (to d)
    move_expr (stepped_before a b c d) = stepped_before a (to b) c (to d)
    move_expr (free a b c) = free (to a) (to b) (to c)
    move_expr (grouped a b c) = grouped (to a) (move_expr b) (to c)
    move_expr (prefixed a b c) = prefixed a (to b) (move_expr c)
    move_expr (joined a b c d) = joined (move_expr a) b (to c) (move_expr d)
    move_expr (chosen a b c d e) = chosen (move_expr a) (to b) (move_expr c) (to d) (move_expr e)

    -- arguments at other places
    pub move_arguments : Arguments → Arguments
    move_arguments no_arguments = no_arguments
    move_arguments (arguments a b) = arguments (move_expr a) (move_more_arguments b)

    -- the arguments behind the first at other places
    pub move_more_arguments : MoreArguments → MoreArguments
    move_more_arguments last_argument = last_argument
    move_more_arguments (next_argument a b c) = next_argument (to a) (move_expr b) (move_more_arguments c)

    -- the brackets of an element at other places
    pub move_subscripts : Subscripts → Subscripts
    move_subscripts (last_subscript a b c) = last_subscript (to a) (move_expr b) (to c)
    move_subscripts (next_subscript a b c d) = next_subscript (to a) (move_expr b) (to c) (move_subscripts d)

  -- an expression that may be absent at other places
  abbrev pub move_optional : Optional → Optional
  move_optional absent = absent
  move_optional (present a) = present (move_expr a)

  -- the brackets of an element or none at other places
  abbrev pub move_index : Index → Index
  move_index no_index = no_index
  move_index (index a) = index (move_subscripts a)

  -- a variable or an element that is changed at other places
  abbrev pub move_place : Place → Place
  move_place (place a b c) = place a (to b) (move_index c)

  -- what is done to it at other places
  abbrev pub move_effect : Effect → Effect
  move_effect (assigns a b c) = assigns a (to b) (move_expr c)
  move_effect (steps a b) = steps a (to b)

  -- a change at other places
  abbrev pub move_update : Update → Update
  move_update (update a b) = update (move_place a) (move_effect b)
  move_update (step_before a b c) = step_before a (to b) (move_place c)

  -- the changes behind the first at other places
  abbrev pub move_more_updates : MoreUpdates → MoreUpdates
  move_more_updates last_update = last_update
  move_more_updates (next_update a b c) = next_update (to a) (move_update b) (move_more_updates c)

  -- changes in order at other places
  abbrev pub move_updates : Updates → Updates
  move_updates no_updates = no_updates
  move_updates (some_updates a b) = some_updates (move_update a) (move_more_updates b)

  -- a size at other places
  abbrev pub move_size : Size → Size
  move_size (number_size a b) = number_size a (to b)
  move_size (name_size a b) = name_size a (to b)

  -- the sizes of an array at other places
  abbrev pub move_sizes : Sizes → Sizes
  move_sizes (last_size a b c) = last_size (to a) (move_size b) (to c)
  move_sizes (next_size a b c d) = next_size (to a) (move_size b) (to c) (move_sizes d)

  abbrev mutual
    -- a value of an array at other places
    pub move_value : Value → Value
    move_value (one_value a) = one_value (move_expr a)
    move_value (braced a b c) = braced (to a) (move_values b) (to c)

    -- values at other places
    pub move_values : Values → Values
    move_values no_values = no_values
    move_values (values a b) = values (move_value a) (move_more_values b)

    -- the values behind the first at other places
    pub move_more_values : MoreValues → MoreValues
    move_more_values last_value = last_value
    move_more_values (last_comma a) = last_comma (to a)
    move_more_values (next_value a b c) = next_value (to a) (move_value b) (move_more_values c)

  -- what stands behind a declared name at other places
  abbrev pub move_initialiser : Initialiser → Initialiser
  move_initialiser bare = bare
  move_initialiser (given a b) = given (to a) (move_expr b)
  move_initialiser (sized a) = sized (move_sizes a)
  move_initialiser (filled a b c d e) = filled (move_sizes a) (to b) (to c) (move_values d) (to e)

  -- a name that is declared at other places
  abbrev pub move_declarator : Declarator → Declarator
  move_declarator (declarator a b c) = declarator a (to b) (move_initialiser c)

  -- the names behind the first at other places
  abbrev pub move_more_declarators : MoreDeclarators → MoreDeclarators
  move_more_declarators last_declarator = last_declarator
  move_more_declarators (next_declarator a b c) = next_declarator (to a) (move_declarator b) (move_more_declarators c)

  -- names that are declared at other places
  abbrev pub move_declarators : Declarators → Declarators
  move_declarators (declares a b) = declares (move_declarator a) (move_more_declarators b)

  -- what stands before the names of a declaration at other places
  abbrev pub move_type : IntType → IntType
  move_type (plain_int a) = plain_int (to a)
  move_type (const_int a b) = const_int (to a) (to b)

  -- the first part of a `for`'s head at other places
  abbrev pub move_first : ForFirst → ForFirst
  move_first (declared_first a b) = declared_first (move_type a) (move_declarators b)
  move_first (updated_first a) = updated_first (move_updates a)

  abbrev mutual
    -- a statement without labels at other places
    pub move_core : Core → Core
    move_core (empty a) = empty (to a)
    move_core (block a b c) = block (to a) (move_items b) (to c)
    move_core (if_alone a b c d e) = if_alone (to a) (to b) (move_expr c) (to d) (move_sub e)
    move_core (if_else a b c d e f g) = if_else (to a) (to b) (move_expr c) (to d) (move_sub e) (to f) (move_sub g)
    move_core (repeat a b c d e) = repeat (to a) (to b) (move_expr c) (to d) (move_sub e)
    move_core (repeat_after a b c d e f g) = repeat_after (to a) (move_sub b) (to c) (to d) (move_expr e) (to f) (to g)
    move_core (repeat_for a b c d e f g h i) =
        repeat_for (to a) (to b) (move_first c) (to d) (move_optional e) (to f) (move_updates g) (to h) (move_sub i)
    move_core (jumps a b c) = jumps a (to b) (to c)
    move_core (returns a b c) = returns (to a) (move_optional b) (to c)
    move_core (demands a b c d e f) = demands a (to b) (to c) (move_expr d) (to e) (to f)
    move_core (calls a b c d e f) = calls a (to b) (to c) (move_arguments d) (to e) (to f)
    move_core (updates a b) = updates (move_update a) (to b)

    -- a statement with its labels at other places
    pub move_sub : Sub → Sub
    move_sub (labelled a b c d) = labelled a (to b) (to c) (move_sub d)
    move_sub (plain a) = plain (move_core a)

    -- the statements of a block at other places
    pub move_items : Items → Items
    move_items no_items = no_items
    move_items (label a b c d) = label a (to b) (to c) (move_items d)
    move_items (declaration a b c d) = declaration (move_type a) (move_declarators b) (to c) (move_items d)
    move_items (item a b) = item (move_core a) (move_items b)

  -- what stands before a function's name at other places
  abbrev pub move_specifiers : Specifiers → Specifiers
  move_specifiers (gives_int a) = gives_int (to a)
  move_specifiers (gives_void a) = gives_void (to a)
  move_specifiers (storage a b) = storage (to a) (move_specifiers b)

  -- a function's name at other places
  abbrev pub move_function_name : FunctionName → FunctionName
  move_function_name (called a b) = called a (to b)
  move_function_name (called_main a) = called_main (to a)

  -- the brackets of a parameter at other places
  abbrev pub move_bounds : Bounds → Bounds
  move_bounds (sized_bounds a) = sized_bounds (move_sizes a)
  move_bounds (open_bound a b) = open_bound (to a) (to b)
  move_bounds (open_bounds a b c) = open_bounds (to a) (to b) (move_sizes c)

  -- a parameter at other places
  abbrev pub move_parameter : Parameter → Parameter
  move_parameter (number_parameter a b c) = number_parameter (move_type a) b (to c)
  move_parameter (pointer_parameter a b c d) = pointer_parameter (move_type a) (to b) c (to d)
  move_parameter (array_parameter a b c d) = array_parameter (move_type a) b (to c) (move_bounds d)

  -- the parameters behind the first at other places
  abbrev pub move_more_parameters : MoreParameters → MoreParameters
  move_more_parameters last_parameter = last_parameter
  move_more_parameters (next_parameter a b c) = next_parameter (to a) (move_parameter b) (move_more_parameters c)

  -- parameters at other places
  abbrev pub move_parameters : Parameters → Parameters
  move_parameters no_parameters = no_parameters
  move_parameters (void_parameters a) = void_parameters (to a)
  move_parameters (some_parameters a b) = some_parameters (move_parameter a) (move_more_parameters b)

  -- a function at other places
  abbrev pub move_function : Function → Function
  move_function (function a b c d e f g h) =
      function (move_specifiers a) (move_function_name b) (to c) (move_parameters d) (to e) (to f) (move_items g) (to h)
