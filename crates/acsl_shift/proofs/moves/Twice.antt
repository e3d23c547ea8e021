-- A tree at other places, each moved to one place, is the tree moved to that place.
use Rattle.std.proofs.Common.{◌≡◌, ◌∙◌, ℕ, refl, ap, ap₂}
use Rattle.source_grammar.specs.Expressions.{Expr, Arguments, MoreArguments, Optional, Index, Place, Effect, Update, MoreUpdates, Updates}
use Rattle.source_grammar.specs.Grammar.{Initialiser, Declarator, MoreDeclarators, Declarators, ForFirst, Core, Sub, Items, Specifiers}
use Rattle.source_grammar.specs.Expressions.{number, variable, element, call, free, grouped}
use Rattle.source_grammar.specs.Grammar.{FunctionName, MoreParameters, Parameters, Function}
use Rattle.source_grammar.specs.Expressions.{prefixed, joined, chosen, no_arguments, arguments, last_argument, next_argument, absent}
use Rattle.source_grammar.specs.Expressions.{present}
use Rattle.source_grammar.specs.Expressions.{no_index, index, place, assigns, steps, update, step_before, last_update, next_update}
use Rattle.source_grammar.specs.Expressions.{no_updates}
use Rattle.source_grammar.specs.Expressions.{some_updates}
use Rattle.source_grammar.specs.Grammar.{bare, given, sized, declarator, last_declarator, next_declarator, declares}
use Rattle.source_grammar.specs.Grammar.{declared_first, updated_first, empty, block, if_alone, if_else, repeat, repeat_after, repeat_for}
use Rattle.source_grammar.specs.Grammar.{jumps, returns, demands, calls, updates, labelled, plain, no_items, label, declaration, item}
use Rattle.source_grammar.specs.Grammar.{gives_int, gives_void, storage, called, called_main, last_parameter, next_parameter, no_parameters}
use Rattle.source_grammar.specs.Grammar.{void_parameters, some_parameters, function}
use Rattle.source_grammar.specs.Expressions.{stepped_behind, stepped_before, Subscripts, last_subscript, next_subscript}
use Rattle.source_grammar.specs.Grammar.{Size, number_size}
use Rattle.source_grammar.specs.Grammar.{name_size, Sizes, last_size, next_size, Value, one_value, braced, Values, no_values, values}
use Rattle.source_grammar.specs.Grammar.{MoreValues, last_value, last_comma, next_value, filled, IntType, plain_int, const_int, Bounds}
use Rattle.source_grammar.specs.Grammar.{sized_bounds, open_bound, open_bounds, Parameter, number_parameter, pointer_parameter}
use Rattle.source_grammar.specs.Grammar.{array_parameter}
use Rattle.acsl_shift.proofs.moves.Trees.{move_expr, move_arguments, move_more_arguments, move_optional, move_index, move_place}
use Rattle.acsl_shift.proofs.moves.Trees.{move_effect, move_update, move_more_updates, move_updates, move_initialiser, move_declarator}
use Rattle.acsl_shift.proofs.moves.Trees.{move_more_declarators, move_declarators, move_first, move_core, move_sub, move_items}
use Rattle.acsl_shift.proofs.moves.Trees.{move_specifiers, move_function_name, move_more_parameters, move_parameters, move_function}
use Rattle.acsl_shift.proofs.moves.Trees.{move_subscripts, move_size, move_sizes, move_value, move_values, move_more_values, move_type}
use Rattle.acsl_shift.proofs.moves.Trees.{move_bounds, move_parameter}

-- all places are one
abbrev pub nowhere : ℕ → ℕ
nowhere a = 0

module _ (to : ℕ → ℕ) where
  mutual
    -- an expression
    twice_expr : (x : Expr) → move_expr nowhere (move_expr to x) ≡ move_expr nowhere x
    twice_expr (number a b) = refl
    twice_expr (variable a b) = refl
    twice_expr (element a b c) = ap (λ (x : Subscripts). element a 0 x) (twice_subscripts c)
    twice_expr (call a b c d e) = ap (λ (x : Arguments). call a 0 0 x 0) (twice_arguments d)
    twice_expr (stepped_behind a b c d) = refl
    twice_expr (stepped_before a b c d) = refl
    twice_expr (free a b c) = refl
    twice_expr (grouped a b c) = ap (λ (x : Expr). grouped 0 x 0) (twice_expr b)
    twice_expr (prefixed a b c) = ap (λ (x : Expr). prefixed a 0 x) (twice_expr c)
    twice_expr (joined a b c d) = ap₂ (λ (x : Expr) (y : Expr). joined x b 0 y) (twice_expr a) (twice_expr d)
    twice_expr (chosen a b c d e) = ap₂ (λ (x : Expr) (y : Expr). chosen x 0 y 0 (move_expr nowhere (move_expr to e))) (twice_expr a)
        (twice_expr c) ∙ ap (λ (z : Expr). chosen (move_expr nowhere a) 0 (move_expr nowhere c) 0 z) (twice_expr e)

    -- arguments
    twice_arguments : (x : Arguments) → move_arguments nowhere (move_arguments to x) ≡ move_arguments nowhere x
    twice_arguments no_arguments = refl
    twice_arguments (arguments a b) = ap₂ (λ (x : Expr) (y : MoreArguments). arguments x y) (twice_expr a) (twice_more_arguments b)

    -- the arguments behind the first
    twice_more_arguments : (x : MoreArguments) → move_more_arguments nowhere (move_more_arguments to x) ≡ move_more_arguments nowhere x
    twice_more_arguments last_argument = refl
    twice_more_arguments (next_argument a b c) =
        ap₂ (λ (x : Expr) (y : MoreArguments). next_argument 0 x y) (twice_expr b) (twice_more_arguments c)

    -- the brackets of an element
    twice_subscripts : (x : Subscripts) → move_subscripts nowhere (move_subscripts to x) ≡ move_subscripts nowhere x
    twice_subscripts (last_subscript a b c) = ap (λ (x : Expr). last_subscript 0 x 0) (twice_expr b)
    twice_subscripts (next_subscript a b c d) =
        ap₂ (λ (x : Expr) (y : Subscripts). next_subscript 0 x 0 y) (twice_expr b) (twice_subscripts d)

  -- an expression that may be absent
  twice_optional : (x : Optional) → move_optional nowhere (move_optional to x) ≡ move_optional nowhere x
  twice_optional absent = refl
  twice_optional (present a) = ap (λ (x : Expr). present x) (twice_expr a)

  -- the brackets of an element or none
  twice_index : (x : Index) → move_index nowhere (move_index to x) ≡ move_index nowhere x
  twice_index no_index = refl
  twice_index (index a) = ap (λ (x : Subscripts). index x) (twice_subscripts a)

  -- a variable or an element that is changed
  twice_place : (x : Place) → move_place nowhere (move_place to x) ≡ move_place nowhere x
  twice_place (place a b c) = ap (λ (x : Index). place a 0 x) (twice_index c)

  -- what is done to it
  twice_effect : (x : Effect) → move_effect nowhere (move_effect to x) ≡ move_effect nowhere x
  twice_effect (assigns a b c) = ap (λ (x : Expr). assigns a 0 x) (twice_expr c)
  twice_effect (steps a b) = refl

  -- a change
  twice_update : (x : Update) → move_update nowhere (move_update to x) ≡ move_update nowhere x
  twice_update (update a b) = ap₂ (λ (x : Place) (y : Effect). update x y) (twice_place a) (twice_effect b)
  twice_update (step_before a b c) = ap (λ (x : Place). step_before a 0 x) (twice_place c)

  -- the changes behind the first
  twice_more_updates : (x : MoreUpdates) → move_more_updates nowhere (move_more_updates to x) ≡ move_more_updates nowhere x
  twice_more_updates last_update = refl
  twice_more_updates (next_update a b c) = ap₂ (λ (x : Update) (y : MoreUpdates). next_update 0 x y) (twice_update b) (twice_more_updates c)

  -- changes in order
  twice_updates : (x : Updates) → move_updates nowhere (move_updates to x) ≡ move_updates nowhere x
  twice_updates no_updates = refl
  twice_updates (some_updates a b) = ap₂ (λ (x : Update) (y : MoreUpdates). some_updates x y) (twice_update a) (twice_more_updates b)

  -- a size
  twice_size : (x : Size) → move_size nowhere (move_size to x) ≡ move_size nowhere x
  twice_size (number_size a b) = refl
  twice_size (name_size a b) = refl

  -- the sizes of an array
  twice_sizes : (x : Sizes) → move_sizes nowhere (move_sizes to x) ≡ move_sizes nowhere x
  twice_sizes (last_size a b c) = ap (λ (x : Size). last_size 0 x 0) (twice_size b)
  twice_sizes (next_size a b c d) = ap₂ (λ (x : Size) (y : Sizes). next_size 0 x 0 y) (twice_size b) (twice_sizes d)

  mutual
    -- a value of an array
    twice_value : (x : Value) → move_value nowhere (move_value to x) ≡ move_value nowhere x
    twice_value (one_value a) = ap (λ (x : Expr). one_value x) (twice_expr a)
    twice_value (braced a b c) = ap (λ (x : Values). braced 0 x 0) (twice_values b)

    -- values
    twice_values : (x : Values) → move_values nowhere (move_values to x) ≡ move_values nowhere x
    twice_values no_values = refl
    twice_values (values a b) = ap₂ (λ (x : Value) (y : MoreValues). values x y) (twice_value a) (twice_more_values b)

    -- the values behind the first
    twice_more_values : (x : MoreValues) → move_more_values nowhere (move_more_values to x) ≡ move_more_values nowhere x
    twice_more_values last_value = refl
    twice_more_values (last_comma a) = refl
    twice_more_values (next_value a b c) =
        ap₂ (λ (x : Value) (y : MoreValues). next_value 0 x y) (twice_value b) (twice_more_values c)

  -- what stands behind a declared name
  twice_initialiser : (x : Initialiser) → move_initialiser nowhere (move_initialiser to x) ≡ move_initialiser nowhere x
  twice_initialiser bare = refl
  twice_initialiser (given a b) = ap (λ (x : Expr). given 0 x) (twice_expr b)
  twice_initialiser (sized a) = ap (λ (x : Sizes). sized x) (twice_sizes a)
  twice_initialiser (filled a b c d e) = ap₂ (λ (x : Sizes) (y : Values). filled x 0 0 y 0) (twice_sizes a) (twice_values d)

  -- a name that is declared
  twice_declarator : (x : Declarator) → move_declarator nowhere (move_declarator to x) ≡ move_declarator nowhere x
  twice_declarator (declarator a b c) = ap (λ (x : Initialiser). declarator a 0 x) (twice_initialiser c)

  -- the names behind the first
  twice_more_declarators : (x : MoreDeclarators) → move_more_declarators nowhere
      (move_more_declarators to x) ≡ move_more_declarators nowhere x
  twice_more_declarators last_declarator = refl
  twice_more_declarators (next_declarator a b c) =
      ap₂ (λ (x : Declarator) (y : MoreDeclarators). next_declarator 0 x y) (twice_declarator b) (twice_more_declarators c)

  -- names that are declared
  twice_declarators : (x : Declarators) → move_declarators nowhere (move_declarators to x) ≡ move_declarators nowhere x
  twice_declarators (declares a b) =
      ap₂ (λ (x : Declarator) (y : MoreDeclarators). declares x y) (twice_declarator a) (twice_more_declarators b)

  -- what stands before the names of a declaration
  twice_type : (x : IntType) → move_type nowhere (move_type to x) ≡ move_type nowhere x
  twice_type (plain_int a) = refl
  twice_type (const_int a b) = refl

  -- the first part of a `for`'s head
  twice_first : (x : ForFirst) → move_first nowhere (move_first to x) ≡ move_first nowhere x
  twice_first (declared_first a b) = ap₂ (λ (x : IntType) (y : Declarators). declared_first x y) (twice_type a) (twice_declarators b)
  twice_first (updated_first a) = ap (λ (x : Updates). updated_first x) (twice_updates a)

  mutual
    -- a statement without labels
    twice_core : (x : Core) → move_core nowhere (move_core to x) ≡ move_core nowhere x
    twice_core (empty a) = refl
    twice_core (block a b c) = ap (λ (x : Items). block 0 x 0) (twice_items b)
    twice_core (if_alone a b c d e) = ap₂ (λ (x : Expr) (y : Sub). if_alone 0 0 x 0 y) (twice_expr c) (twice_sub e)
    twice_core (if_else a b c d e f g) = ap₂ (λ (x : Expr) (y : Sub). if_else 0 0 x 0 y 0 (move_sub nowhere (move_sub to g)))
        (twice_expr c) (twice_sub e) ∙ ap (λ (z : Sub). if_else 0 0 (move_expr nowhere c) 0 (move_sub nowhere e) 0 z) (twice_sub g)
    twice_core (repeat a b c d e) = ap₂ (λ (x : Expr) (y : Sub). repeat 0 0 x 0 y) (twice_expr c) (twice_sub e)
    twice_core (repeat_after a b c d e f g) = ap₂ (λ (x : Sub) (y : Expr). repeat_after 0 x 0 0 y 0 0) (twice_sub b) (twice_expr e)
    twice_core (repeat_for a b c d e f g h i) = ap₂ (λ (x : ForFirst) (y : Optional). repeat_for 0 0 x 0 y 0
        (move_updates nowhere (move_updates to g)) 0 (move_sub nowhere (move_sub to i))) (twice_first c) (twice_optional e)
        ∙ ap₂ (λ (z : Updates) (w : Sub). repeat_for 0 0 (move_first nowhere c) 0 (move_optional nowhere e) 0 z 0 w) (twice_updates g)
        (twice_sub i)
    twice_core (jumps a b c) = refl
    twice_core (returns a b c) = ap (λ (x : Optional). returns 0 x 0) (twice_optional b)
    twice_core (demands a b c d e f) = ap (λ (x : Expr). demands a 0 0 x 0 0) (twice_expr d)
    twice_core (calls a b c d e f) = ap (λ (x : Arguments). calls a 0 0 x 0 0) (twice_arguments d)
    twice_core (updates a b) = ap (λ (x : Update). updates x 0) (twice_update a)

    -- a statement with its labels
    twice_sub : (x : Sub) → move_sub nowhere (move_sub to x) ≡ move_sub nowhere x
    twice_sub (labelled a b c d) = ap (λ (x : Sub). labelled a 0 0 x) (twice_sub d)
    twice_sub (plain a) = ap (λ (x : Core). plain x) (twice_core a)

    -- the statements of a block
    twice_items : (x : Items) → move_items nowhere (move_items to x) ≡ move_items nowhere x
    twice_items no_items = refl
    twice_items (label a b c d) = ap (λ (x : Items). label a 0 0 x) (twice_items d)
    twice_items (declaration a b c d) = ap₂ (λ (x : IntType) (y : Declarators). declaration x y 0 (move_items nowhere (move_items to d)))
        (twice_type a) (twice_declarators b)
        ∙ ap (λ (z : Items). declaration (move_type nowhere a) (move_declarators nowhere b) 0 z) (twice_items d)
    twice_items (item a b) = ap₂ (λ (x : Core) (y : Items). item x y) (twice_core a) (twice_items b)

  -- what stands before a function's name
  twice_specifiers : (x : Specifiers) → move_specifiers nowhere (move_specifiers to x) ≡ move_specifiers nowhere x
  twice_specifiers (gives_int a) = refl
  twice_specifiers (gives_void a) = refl
  twice_specifiers (storage a b) = ap (λ (x : Specifiers). storage 0 x) (twice_specifiers b)

  -- a function's name
  twice_function_name : (x : FunctionName) → move_function_name nowhere (move_function_name to x) ≡ move_function_name nowhere x
  twice_function_name (called a b) = refl
  twice_function_name (called_main a) = refl

  -- the brackets of a parameter
  twice_bounds : (x : Bounds) → move_bounds nowhere (move_bounds to x) ≡ move_bounds nowhere x
  twice_bounds (sized_bounds a) = ap (λ (x : Sizes). sized_bounds x) (twice_sizes a)
  twice_bounds (open_bound a b) = refl
  twice_bounds (open_bounds a b c) = ap (λ (x : Sizes). open_bounds 0 0 x) (twice_sizes c)

  -- a parameter
  twice_parameter : (x : Parameter) → move_parameter nowhere (move_parameter to x) ≡ move_parameter nowhere x
  twice_parameter (number_parameter a b c) = ap (λ (x : IntType). number_parameter x b 0) (twice_type a)
  twice_parameter (pointer_parameter a b c d) = ap (λ (x : IntType). pointer_parameter x 0 c 0) (twice_type a)
  twice_parameter (array_parameter a b c d) =
      ap₂ (λ (x : IntType) (y : Bounds). array_parameter x b 0 y) (twice_type a) (twice_bounds d)

  -- the parameters behind the first
  twice_more_parameters : (x : MoreParameters) → move_more_parameters nowhere (move_more_parameters to x) ≡ move_more_parameters nowhere x
  twice_more_parameters last_parameter = refl
  twice_more_parameters (next_parameter a b c) =
      ap₂ (λ (x : Parameter) (y : MoreParameters). next_parameter 0 x y) (twice_parameter b) (twice_more_parameters c)

  -- parameters
  twice_parameters : (x : Parameters) → move_parameters nowhere (move_parameters to x) ≡ move_parameters nowhere x
  twice_parameters no_parameters = refl
  twice_parameters (void_parameters a) = refl
  twice_parameters (some_parameters a b) =
      ap₂ (λ (x : Parameter) (y : MoreParameters). some_parameters x y) (twice_parameter a) (twice_more_parameters b)

  -- a function
  pub twice_function : (x : Function) → move_function nowhere (move_function to x) ≡ move_function nowhere x
  twice_function (function a b c d e f g h) = ap₂ (λ (x : Specifiers) (y : FunctionName). function x y 0
      (move_parameters nowhere (move_parameters to d)) 0 0 (move_items nowhere (move_items to g)) 0) (twice_specifiers a)
      (twice_function_name b) ∙ ap₂ (λ (z : Parameters) (w : Items). function (move_specifiers nowhere a)
      (move_function_name nowhere b) 0 z 0 0 w 0) (twice_parameters d) (twice_items g)
