-- The variables of expressions and changes, and how their comparisons enclose them.
use Rattle.std.specs.Prelude.{ℕ, suc, List, [], ◌∷◌, Option, Some, None, if◌then◌else◌}
use Rattle.std.specs.Str.{bytes_eq}
use Rattle.source_grammar.specs.Tokens.{Op, or_op, and_op, compare_op, plus_op, minus_op, times_op, over_op, remainder_op, Name}
use Rattle.source_grammar.specs.Expressions.{Expr, number, variable, element, call, stepped_behind, stepped_before, free, grouped}
use Rattle.source_grammar.specs.Expressions.{prefixed, joined, chosen, Arguments, no_arguments, arguments, MoreArguments, last_argument}
use Rattle.source_grammar.specs.Expressions.{next_argument, Subscripts, last_subscript, next_subscript, Optional, absent, present}
use Rattle.source_grammar.specs.Expressions.{no_index, index, Place, place, assigns, steps, Update, update, step_before}
use Rattle.source_grammar.specs.Grammar.{Size, number_size, name_size, Sizes, last_size, next_size, Value, one_value, braced, Values}
use Rattle.source_grammar.specs.Grammar.{no_values, values, MoreValues, last_value, last_comma, next_value, Initialiser, bare, given}
use Rattle.source_grammar.specs.Grammar.{sized, filled}
use Rattle.lang_groups.specs.Shapes.{Shape, nothing, one, enclosed, tied, compared, apart}

-- the place of a name among others, if it is one of them
abbrev pub position : List ℕ → List (List ℕ) → Option ℕ
position x [] = None
position x (y ∷ ys) = if bytes_eq x y then Some 0 else elim (position x ys) [ None ↦ None | Some i ↦ Some (suc i) ]

-- the number of the variable that a name is, of those with these names: a constant is none
abbrev pub variable_number : (names : List (List ℕ)) → Name → Option ℕ
variable_number names x = elim x.value [ None ↦ position x.text names | Some v ↦ None ]

-- a variable, or another name
abbrev pub number_shape : Option ℕ → Shape
number_shape None = nothing
number_shape (Some i) = one i

-- the sides of a sign
abbrev pub sides : Op → Shape → Shape → Shape
sides or_op s t = apart s t
sides and_op s t = apart s t
sides (compare_op r) s t = compared s t
sides plus_op s t = tied s t
sides minus_op s t = tied s t
sides times_op s t = tied s t
sides over_op s t = tied s t
sides remainder_op s t = tied s t

-- of the variables with these names
module _ (names : List (List ℕ)) where
  -- a name where a variable may stand
  abbrev pub name_shape : Name → Shape
  name_shape x = number_shape (variable_number names x)

  abbrev mutual
    -- an expression: arrays and functions are no variables
    pub shape : Expr → Shape
    shape (number n a) = nothing
    shape (variable x a) = name_shape x
    shape (element x a is) = subscripts_shape is
    shape (call x a b es c) = enclosed (arguments_shape es)
    shape (stepped_behind x a g b) = name_shape x
    shape (stepped_before g a x b) = name_shape x
    shape (free a b c) = enclosed nothing
    shape (grouped a e b) = enclosed (shape e)
    shape (prefixed p a e) = shape e
    shape (joined e o a f) = sides o (shape e) (shape f)
    shape (chosen c a e b f) = apart (shape c) (apart (shape e) (shape f))

    -- what stands between the parentheses of a call
    pub arguments_shape : Arguments → Shape
    arguments_shape no_arguments = nothing
    arguments_shape (arguments e es) = more_shape (shape e) es

    -- an argument and those behind it
    pub more_shape : Shape → MoreArguments → Shape
    more_shape s last_argument = s
    more_shape s (next_argument a e es) = apart s (more_shape (shape e) es)

    -- the brackets of an element with its indexes
    pub subscripts_shape : Subscripts → Shape
    subscripts_shape (last_subscript a e b) = enclosed (shape e)
    subscripts_shape (next_subscript a e b is) = tied (enclosed (shape e)) (subscripts_shape is)

  -- an expression that may be absent
  abbrev pub optional_shape : Optional → Shape
  optional_shape absent = nothing
  optional_shape (present e) = shape e

  -- a variable or an element of an array that is changed
  abbrev pub place_shape : Place → Shape
  place_shape (place x a no_index) = name_shape x
  place_shape (place x a (index is)) = subscripts_shape is

  -- a change
  abbrev pub update_shape : Update → Shape
  update_shape (update p (assigns g a e)) = apart (place_shape p) (shape e)
  update_shape (update p (steps g a)) = place_shape p
  update_shape (step_before g a p) = place_shape p

  -- how many elements an array has: a constant is no variable
  abbrev pub size_shape : Size → Shape
  size_shape (number_size n a) = nothing
  size_shape (name_size x a) = name_shape x

  -- the brackets of an array with its sizes
  abbrev pub sizes_shape : Sizes → Shape
  sizes_shape (last_size a s b) = enclosed (size_shape s)
  sizes_shape (next_size a s b ss) = tied (enclosed (size_shape s)) (sizes_shape ss)

  abbrev mutual
    -- a value of an array
    pub value_shape : Value → Shape
    value_shape (one_value e) = shape e
    value_shape (braced a vs b) = enclosed (values_shape vs)

    -- what stands between braces
    pub values_shape : Values → Shape
    values_shape no_values = nothing
    values_shape (values v vs) = more_values_shape (value_shape v) vs

    -- a value and those behind it
    pub more_values_shape : Shape → MoreValues → Shape
    more_values_shape s last_value = s
    more_values_shape s (last_comma a) = apart s nothing
    more_values_shape s (next_value a v vs) = apart s (more_values_shape (value_shape v) vs)

  -- a name that is declared, with its value
  abbrev pub declared_shape : Name → Initialiser → Shape
  declared_shape x bare = name_shape x
  declared_shape x (given a e) = apart (name_shape x) (shape e)
  declared_shape x (sized ss) = sizes_shape ss
  declared_shape x (filled ss a b vs c) = apart (sizes_shape ss) (enclosed (values_shape vs))
