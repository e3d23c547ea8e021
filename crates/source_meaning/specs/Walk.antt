-- What a function means: its variables in order, its parameters the first of them, and its statements; or its first fault.
use Rattle.std.specs.Prelude.{ℕ, suc, ◌∷◌, ◌++◌, false, List, [], length, min, reverse, Result, Ok, Err, if◌then◌else◌}
use Rattle.std.specs.List.{list_any}
use Rattle.std.specs.Str.{bytes_eq}
use Rattle.lang_tree.specs.declared.limits.TheConstants.{MOST_VARIABLES}
use Rattle.source_grammar.specs.Grammar.{Initialiser, bare, given, sized, Declarator, declarator, MoreDeclarators, last_declarator}
use Rattle.source_grammar.specs.Grammar.{next_declarator, Declarators, ForFirst, declared_first, updated_first, Core, Sub, Items, empty}
use Rattle.source_grammar.specs.Grammar.{block}
use Rattle.source_grammar.specs.Grammar.{if_alone, if_else, repeat, repeat_after, repeat_for, jumps, returns, demands, calls, updates}
use Rattle.source_grammar.specs.Grammar.{labelled, plain, no_items, item, MoreParameters, last_parameter, next_parameter, Parameters}
use Rattle.source_grammar.specs.Grammar.{no_parameters, void_parameters, some_parameters, Function, function, filled, Parameter}
use Rattle.source_grammar.specs.Grammar.{number_parameter, pointer_parameter, array_parameter}
use Rattle.source_grammar.specs.Grammar as tree
use Rattle.source_tree.specs.Statements.{Statements, declares, nil, cons}
use Rattle.source_core.specs.Core.{taken_any}
use Rattle.source_meaning.specs.declared.fault.FunctionFault.{FunctionFault}
use Rattle.source_meaning.specs.declared.fault.FunctionFault.TheVariants.{NoVariables}
use Rattle.source_meaning.specs.Results.{◌>>=◌}
use Rattle.source_tree.specs.Expressions.{endless}
use Rattle.source_meaning.specs.Names.{State, start_state, with_variable, declared_number, fresh_array, with_array}
use Rattle.source_meaning.specs.Arrays.{read_bounds}
use Rattle.source_meaning.specs.Limits.{counted}
use Rattle.source_meaning.specs.Statements.{followed_by, read_items}
use Rattle.base_integers.specs.declared.integers.Integers.{Integers}

-- the name that is declared as a variable, if it is one
abbrev pub declared_by : List ℕ → Initialiser → List (List ℕ)
declared_by x bare = x ∷ []
declared_by x (given a e) = x ∷ []
declared_by x (sized ss) = []
declared_by x (filled ss a b vs c) = []

-- by a declarator
abbrev pub declared_one : Declarator → List (List ℕ)
declared_one (declarator x a i) = declared_by x.text i

-- by those behind the first
abbrev pub declared_more : MoreDeclarators → List (List ℕ)
declared_more last_declarator = []
declared_more (next_declarator a x xs) = declared_one x ++ declared_more xs

-- by names that are declared together
abbrev pub declared_in : Declarators → List (List ℕ)
declared_in (tree.declares x xs) = declared_one x ++ declared_more xs

-- by the first part of a `for`'s head
abbrev pub declared_before : ForFirst → List (List ℕ)
declared_before (declared_first t xs) = declared_in xs
declared_before (updated_first us) = []

abbrev mutual
  -- by a statement
  pub declared_core : Core → List (List ℕ)
  declared_core (empty a) = []
  declared_core (block a is b) = declared_items is
  declared_core (if_alone a b e c s) = declared_sub s
  declared_core (if_else a b e c s d t) = declared_sub s ++ declared_sub t
  declared_core (repeat a b e c s) = declared_sub s
  declared_core (repeat_after a s b c e d i) = declared_sub s
  declared_core (repeat_for a b f c t d us i s) = declared_before f ++ declared_sub s
  declared_core (jumps j a b) = []
  declared_core (returns a t b) = []
  declared_core (demands k a b e c d) = []
  declared_core (calls x a b es c d) = []
  declared_core (updates u c) = []

  -- by a statement with its labels
  pub declared_sub : Sub → List (List ℕ)
  declared_sub (labelled x a b s) = declared_sub s
  declared_sub (plain c) = declared_core c

  -- by the statements of a block
  pub declared_items : Items → List (List ℕ)
  declared_items no_items = []
  declared_items (tree.label x a b is) = declared_items is
  declared_items (tree.declaration t xs b is) = declared_in xs ++ declared_items is
  declared_items (item c is) = declared_core c ++ declared_items is

-- by a parameter
abbrev pub declared_parameter : Parameter → List (List ℕ)
declared_parameter (number_parameter t x a) = x.text ∷ []
declared_parameter (pointer_parameter t a x b) = []
declared_parameter (array_parameter t x a bs) = []

-- by the parameters behind the first
abbrev pub declared_after : MoreParameters → List (List ℕ)
declared_after last_parameter = []
declared_after (next_parameter a p ps) = declared_parameter p ++ declared_after ps

-- by parameters
abbrev pub declared_parameters : Parameters → List (List ℕ)
declared_parameters no_parameters = []
declared_parameters (void_parameters a) = []
declared_parameters (some_parameters p ps) = declared_parameter p ++ declared_after ps

-- how many names there are, each counted once, behind those that stood before
abbrev pub distinct : (before names : List (List ℕ)) → ℕ
distinct before [] = 0
distinct before (x ∷ xs) = if list_any (bytes_eq x) before then distinct before xs else suc (distinct (x ∷ before) xs)

-- how many variables a function has; past the greatest number of them there is a fault, whatever the hidden variables
abbrev pub width_of : Function → ℕ
width_of (function ss f a ps b c is d) = min MOST_VARIABLES (distinct [] (declared_parameters ps ++ declared_items is))

module _ (integers : Integers) (line : ℕ → ℕ) where
  -- a parameter: a variable, which has any of the integers, or an array
  abbrev pub read_parameter : State → Parameter → Result (State × Statements) FunctionFault
  read_parameter st (number_parameter t x at) =
      with_variable x at st
      >>= λ now. (let i = declared_number now in counted at (length (taken_any integers i (line at))) now
      >>= λ now. Ok (now, cons (declares i (line at)) nil))
  read_parameter st (pointer_parameter t a x at) = fresh_array x at st >>= λ now. Ok (with_array x (endless ∷ []) now, nil)
  read_parameter st (array_parameter t x at bs) =
      fresh_array x at st >>= λ now. read_bounds now bs >>= λ extents. Ok (with_array x extents now, nil)

  -- the parameters behind the first
  abbrev pub read_more_parameters : State → MoreParameters → Result (State × Statements) FunctionFault
  read_more_parameters st last_parameter = Ok (st, nil)
  read_more_parameters st (next_parameter a p ps) = read_parameter st p >>= λ r. read_more_parameters r.0 ps
      >>= λ q. Ok (q.0, followed_by r.1 q.1)

  -- the parameters
  abbrev pub read_parameters : State → Parameters → Result (State × Statements) FunctionFault
  read_parameters st no_parameters = Ok (st, nil)
  read_parameters st (void_parameters a) = Ok (st, nil)
  read_parameters st (some_parameters p ps) = read_parameter st p >>= λ r. read_more_parameters r.0 ps
      >>= λ q. Ok (q.0, followed_by r.1 q.1)

  -- the variables and the statements of a function, of which there has to be a variable
  abbrev pub function_of : State → Statements → Result (List (List ℕ) × Statements) FunctionFault
  function_of st body = elim (reverse st.variables) [ [] ↦ Err NoVariables | x ∷ xs ↦ Ok (x ∷ xs, body) ]

  -- what a function means, or its first fault
  abbrev pub walk : Function → Result (List (List ℕ) × Statements) FunctionFault
  walk (function ss f a ps b c is d) =
      read_parameters start_state ps >>= λ p. read_items integers line (width_of (function ss f a ps b c is d)) false p.0 is
      >>= λ r. function_of r.0 (followed_by p.1 r.1)
