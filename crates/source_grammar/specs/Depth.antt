-- Which tokens open a construct, and how many are open there.
use Rattle.std.specs.Prelude.{◌++◌, ℕ, suc, List, [], ◌∷◌, Option, Some, None}
use Rattle.source_grammar.specs.Grammar.{Expr, number, variable, element, call, free, grouped, prefixed, joined, chosen, Arguments}
use Rattle.source_grammar.specs.Grammar.{no_arguments, arguments, MoreArguments, last_argument, next_argument, Optional, absent, present}
use Rattle.source_grammar.specs.Grammar.{Index, no_index, index, Place, place, Effect, assigns, steps, Update, update, step_before}
use Rattle.source_grammar.specs.Grammar.{MoreUpdates, last_update, next_update, Updates, no_updates, some_updates, Initialiser, bare, given}
use Rattle.source_grammar.specs.Grammar.{sized, Declarator, declarator, MoreDeclarators, last_declarator, next_declarator, Declarators}
use Rattle.source_grammar.specs.Grammar.{declares, ForFirst, declared_first, updated_first, Core, empty, block, if_alone, if_else, repeat}
use Rattle.source_grammar.specs.Grammar.{repeat_after, repeat_for, jumps, returns, demands, calls, updates, Sub, labelled, plain, Items}
use Rattle.source_grammar.specs.Grammar.{no_items, label, declaration, item, Specifiers, gives_int, gives_void, storage, FunctionName}
use Rattle.source_grammar.specs.Grammar.{called, called_main, MoreParameters, last_parameter, next_parameter, Parameters, no_parameters}
use Rattle.source_grammar.specs.Grammar.{void_parameters, some_parameters, Function, function, stepped_behind, stepped_before, Subscripts}
use Rattle.source_grammar.specs.Grammar.{last_subscript, next_subscript, Sizes, last_size, next_size, Value, one_value, braced, Values}
use Rattle.source_grammar.specs.Grammar.{no_values, values, MoreValues, last_value, last_comma, next_value, filled, IntType, plain_int}
use Rattle.source_grammar.specs.Grammar.{const_int, Bounds, sized_bounds, open_bound, open_bounds, Parameter, number_parameter}
use Rattle.source_grammar.specs.Grammar.{pointer_parameter, array_parameter}

-- For each token of the spelling: whether it opens a construct, and how many are open at it.
abbrev mutual
  -- what the tokens of an expression open
  pub opens_expr : ℕ → Expr → List (Option ℕ)
  opens_expr d (number n a) = None ∷ []
  opens_expr d (variable x a) = None ∷ []
  opens_expr d (element x a is) = None ∷ opens_subscripts d is
  opens_expr d (call x a b es c) = None ∷ Some d ∷ (opens_arguments (suc d) es ++ None ∷ [])
  opens_expr d (stepped_behind x a g b) = None ∷ None ∷ []
  opens_expr d (stepped_before g a x b) = None ∷ None ∷ []
  opens_expr d (free a b c) = None ∷ None ∷ None ∷ []
  opens_expr d (grouped a e b) = Some d ∷ (opens_expr (suc d) e ++ None ∷ [])
  opens_expr d (prefixed p a e) = Some d ∷ opens_expr (suc d) e
  opens_expr d (joined e o a f) = opens_expr d e ++ None ∷ opens_expr d f
  opens_expr d (chosen c a e b f) = opens_expr d c ++ Some d ∷ (opens_expr (suc d) e ++ None ∷ opens_expr (suc d) f)

  -- what the tokens of arguments open
  pub opens_arguments : ℕ → Arguments → List (Option ℕ)
  opens_arguments d no_arguments = []
  opens_arguments d (arguments e es) = opens_expr d e ++ opens_more_arguments d es

  -- what the tokens of the arguments behind the first open
  pub opens_more_arguments : ℕ → MoreArguments → List (Option ℕ)
  opens_more_arguments d last_argument = []
  opens_more_arguments d (next_argument a e es) = None ∷ (opens_expr d e ++ opens_more_arguments d es)

  -- what the tokens of an element's brackets open
  pub opens_subscripts : ℕ → Subscripts → List (Option ℕ)
  opens_subscripts d (last_subscript a e b) = Some d ∷ (opens_expr (suc d) e ++ None ∷ [])
  opens_subscripts d (next_subscript a e b is) = Some d ∷ (opens_expr (suc d) e ++ None ∷ opens_subscripts d is)

-- what the tokens of an expression open that may be absent
abbrev pub opens_optional : ℕ → Optional → List (Option ℕ)
opens_optional d absent = []
opens_optional d (present e) = opens_expr d e

-- what the tokens of an index open
abbrev pub opens_index : ℕ → Index → List (Option ℕ)
opens_index d no_index = []
opens_index d (index is) = opens_subscripts d is

-- what the tokens of a place open
abbrev pub opens_place : ℕ → Place → List (Option ℕ)
opens_place d (place x a i) = None ∷ opens_index d i

-- what the tokens of an effect open
abbrev pub opens_effect : ℕ → Effect → List (Option ℕ)
opens_effect d (assigns g a e) = None ∷ opens_expr d e
opens_effect d (steps g a) = None ∷ []

-- what the tokens of a change open
abbrev pub opens_update : ℕ → Update → List (Option ℕ)
opens_update d (update p f) = opens_place d p ++ opens_effect d f
opens_update d (step_before g a p) = None ∷ opens_place d p

-- what the tokens of the changes behind the first open
abbrev pub opens_more_updates : ℕ → MoreUpdates → List (Option ℕ)
opens_more_updates d last_update = []
opens_more_updates d (next_update a u us) = None ∷ (opens_update d u ++ opens_more_updates d us)

-- what the tokens of changes open
abbrev pub opens_updates : ℕ → Updates → List (Option ℕ)
opens_updates d no_updates = []
opens_updates d (some_updates u us) = opens_update d u ++ opens_more_updates d us

-- what the tokens of an array's sizes open
abbrev pub opens_sizes : Sizes → List (Option ℕ)
opens_sizes (last_size a s b) = None ∷ None ∷ None ∷ []
opens_sizes (next_size a s b ss) = None ∷ None ∷ None ∷ opens_sizes ss

abbrev mutual
  -- what the tokens of a value open
  pub opens_value : ℕ → Value → List (Option ℕ)
  opens_value d (one_value e) = opens_expr d e
  opens_value d (braced a vs b) = Some d ∷ (opens_values (suc d) vs ++ None ∷ [])

  -- what those of values open
  pub opens_values : ℕ → Values → List (Option ℕ)
  opens_values d no_values = []
  opens_values d (values v vs) = opens_value d v ++ opens_more_values d vs

  -- what those of the values behind the first open
  pub opens_more_values : ℕ → MoreValues → List (Option ℕ)
  opens_more_values d last_value = []
  opens_more_values d (last_comma a) = None ∷ []
  opens_more_values d (next_value a v vs) = None ∷ (opens_value d v ++ opens_more_values d vs)

-- what the tokens behind a declared name open
abbrev pub opens_initialiser : ℕ → Initialiser → List (Option ℕ)
opens_initialiser d bare = []
opens_initialiser d (given a e) = None ∷ opens_expr d e
opens_initialiser d (sized ss) = opens_sizes ss
opens_initialiser d (filled ss a b vs c) = opens_sizes ss ++ None ∷ Some d ∷ (opens_values (suc d) vs ++ None ∷ [])

-- what the tokens of a declarator open
abbrev pub opens_declarator : ℕ → Declarator → List (Option ℕ)
opens_declarator d (declarator x a i) = None ∷ opens_initialiser d i

-- what the tokens of the declarators behind the first open
abbrev pub opens_more_declarators : ℕ → MoreDeclarators → List (Option ℕ)
opens_more_declarators d last_declarator = []
opens_more_declarators d (next_declarator a x xs) = None ∷ (opens_declarator d x ++ opens_more_declarators d xs)

-- what the tokens of declarators open
abbrev pub opens_declarators : ℕ → Declarators → List (Option ℕ)
opens_declarators d (declares x xs) = opens_declarator d x ++ opens_more_declarators d xs

-- what the tokens before the names of a declaration open
abbrev pub opens_type : IntType → List (Option ℕ)
opens_type (plain_int a) = None ∷ []
opens_type (const_int a b) = None ∷ None ∷ []

-- what the tokens of the first part of a `for`'s head open
abbrev pub opens_first : ℕ → ForFirst → List (Option ℕ)
opens_first d (declared_first t xs) = opens_type t ++ opens_declarators d xs
opens_first d (updated_first us) = opens_updates d us

abbrev mutual
  -- what the tokens of a statement without labels open
  pub opens_core : ℕ → Core → List (Option ℕ)
  opens_core d (empty a) = None ∷ []
  opens_core d (block a is b) = Some d ∷ (opens_items (suc d) is ++ None ∷ [])
  opens_core d (if_alone a b e c s) = Some d ∷ None ∷ (opens_expr (suc d) e ++ None ∷ opens_sub (suc d) s)
  opens_core d (if_else a b e c s i t) = Some d ∷ None ∷ (opens_expr (suc d) e ++ None
      ∷ (opens_sub (suc d) s ++ None ∷ opens_sub (suc d) t))
  opens_core d (repeat a b e c s) = Some d ∷ None ∷ (opens_expr (suc d) e ++ None ∷ opens_sub (suc d) s)
  opens_core d (repeat_after a s b c e i j) = Some d ∷ (opens_sub (suc d) s ++ None ∷ None ∷ (opens_expr (suc d) e ++ None ∷ None ∷ []))
  opens_core d (repeat_for a b f c t i us j s) = Some d ∷ None ∷ (opens_first (suc d) f ++ None
      ∷ (opens_optional (suc d) t ++ None ∷ (opens_updates (suc d) us ++ None ∷ opens_sub (suc d) s)))
  opens_core d (jumps j a b) = None ∷ None ∷ []
  opens_core d (returns a t b) = None ∷ (opens_optional d t ++ None ∷ [])
  opens_core d (demands k a b e c i) = None ∷ None ∷ (opens_expr d e ++ None ∷ None ∷ [])
  opens_core d (calls x a b es c i) = None ∷ Some d ∷ (opens_arguments (suc d) es ++ None ∷ None ∷ [])
  opens_core d (updates u c) = opens_update d u ++ None ∷ []

  -- what the tokens of a statement with its labels open
  pub opens_sub : ℕ → Sub → List (Option ℕ)
  opens_sub d (labelled x a b s) = None ∷ None ∷ opens_sub d s
  opens_sub d (plain c) = opens_core d c

  -- what the tokens of the statements of a block open
  pub opens_items : ℕ → Items → List (Option ℕ)
  opens_items d no_items = []
  opens_items d (label x a b is) = None ∷ None ∷ opens_items d is
  opens_items d (declaration t xs b is) = opens_type t ++ (opens_declarators d xs ++ None ∷ opens_items d is)
  opens_items d (item c is) = opens_core d c ++ opens_items d is

-- what the tokens before a function's name open
abbrev pub opens_specifiers : Specifiers → List (Option ℕ)
opens_specifiers (gives_int a) = None ∷ []
opens_specifiers (gives_void a) = None ∷ []
opens_specifiers (storage a ss) = None ∷ opens_specifiers ss

-- what the token of a function's name opens
abbrev pub opens_function_name : FunctionName → List (Option ℕ)
opens_function_name (called x a) = None ∷ []
opens_function_name (called_main a) = None ∷ []

-- what the tokens of a parameter's brackets open
abbrev pub opens_bounds : Bounds → List (Option ℕ)
opens_bounds (sized_bounds ss) = opens_sizes ss
opens_bounds (open_bound a b) = None ∷ None ∷ []
opens_bounds (open_bounds a b ss) = None ∷ None ∷ opens_sizes ss

-- what the tokens of a parameter open
abbrev pub opens_parameter : Parameter → List (Option ℕ)
opens_parameter (number_parameter t x a) = opens_type t ++ None ∷ []
opens_parameter (pointer_parameter t a x b) = opens_type t ++ None ∷ None ∷ []
opens_parameter (array_parameter t x a bs) = opens_type t ++ None ∷ opens_bounds bs

-- what the tokens of the parameters behind the first open
abbrev pub opens_more_parameters : MoreParameters → List (Option ℕ)
opens_more_parameters last_parameter = []
opens_more_parameters (next_parameter a p ps) = None ∷ (opens_parameter p ++ opens_more_parameters ps)

-- what the tokens between a function's parentheses open
abbrev pub opens_parameters : Parameters → List (Option ℕ)
opens_parameters no_parameters = []
opens_parameters (void_parameters a) = None ∷ []
opens_parameters (some_parameters p ps) = opens_parameter p ++ opens_more_parameters ps

-- what the tokens of a function open
abbrev pub opens : Function → List (Option ℕ)
opens (function ss n a ps b c is d) = opens_specifiers ss ++ (opens_function_name n ++ None ∷ (opens_parameters ps
    ++ None ∷ None ∷ (opens_items 0 is ++ None ∷ [])))
