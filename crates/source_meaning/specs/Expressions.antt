-- What an expression is with its names resolved, or its first fault: the left side before the right one, each operand taken as the number
-- or the condition that is asked for before the next one is read.
use Rattle.std.specs.Prelude.{if◌then◌else◌}
use Rattle.std.specs.Prelude.{ℕ, suc, pos, Bool, true, false, List, [], ◌∷◌, Option, Some, None, Result, Ok, Err}
use Rattle.lang_tree.specs.declared.cond.Rel.{Rel}
use Rattle.lang_tree.specs.declared.cond.Rel.TheVariants as rel
use Rattle.source_grammar.specs.Tokens as g
use Rattle.source_grammar.specs.Tokens.{Op, Prefix, Relation}
use Rattle.source_grammar.specs.Grammar.{Expr, Arguments, MoreArguments, no_arguments, arguments, last_argument, next_argument}
use Rattle.source_grammar.specs.Grammar.{last_subscript, next_subscript, Value, one_value, braced, Values, no_values, values, MoreValues}
use Rattle.source_grammar.specs.Grammar.{last_value, last_comma, next_value}
use Rattle.source_grammar.specs.Grammar as tree
use Rattle.source_tree.specs.Expressions.{Expression, Expressions, number, variable, unknown, call, element, grouped, negative}
use Rattle.source_tree.specs.Expressions.{positive, stepped, inverse, joined, compared, both, either, chosen, none, more, plus, minus}
use Rattle.source_tree.specs.Expressions.{times, over}
use Rattle.source_tree.specs.Expressions.{remainder, Extent, Subscripts, no_subscript, subscript, Direction, up, down, before}
use Rattle.source_tree.specs.Expressions as source
use Rattle.source_core.specs.Elaborated.{elaborated, numbered, tested}
use Rattle.source_core.specs.Fits.{fits, tested_fits}
use Rattle.source_meaning.specs.declared.fault.FunctionFault.{FunctionFault}
use Rattle.source_meaning.specs.declared.fault.FunctionFault.TheVariants.{BigNumber, UnknownName, WrongKind}
use Rattle.source_meaning.specs.Results.{◌>>=◌, provided}
use Rattle.source_meaning.specs.Names as names
use Rattle.source_meaning.specs.Names.{Thing, State, thing_of, passable, stepped_of, array_of, as_called}
use Rattle.base_integers.specs.declared.integers.Integers.{Integers}

-- the place of an expression's first token
abbrev pub first_of : Expr → ℕ
first_of (tree.number v a) = a
first_of (tree.variable x a) = a
first_of (tree.element x a is) = a
first_of (tree.call x a b es c) = a
first_of (tree.stepped_behind x a g b) = a
first_of (tree.stepped_before g a x b) = a
first_of (tree.free a b c) = a
first_of (tree.grouped a e b) = a
first_of (tree.prefixed p a e) = a
first_of (tree.joined e o a f) = first_of e
first_of (tree.chosen c a e b f) = first_of c

-- how many indexes an element has
abbrev pub subscript_count : tree.Subscripts → ℕ
subscript_count (last_subscript a e b) = 1
subscript_count (next_subscript a e b is) = suc (subscript_count is)

-- a thing is an array
abbrev pub is_array : Option Thing → Bool
is_array (Some (names.array extents)) = true
is_array _ = false

-- the name of an array alone, which may be an argument
abbrev pub is_array_name : State → Expr → Bool
is_array_name st (tree.variable x a) = is_array (thing_of x st)
is_array_name st _ = false

-- how two numbers are compared
abbrev pub rel_of : Relation → Rel
rel_of g.equal = rel.Eq
rel_of g.unequal = rel.Ne
rel_of g.less = rel.Lt
rel_of g.at_most = rel.Le
rel_of g.greater = rel.Gt
rel_of g.at_least = rel.Ge

-- which way a step goes
abbrev pub direction_of : g.Direction → Direction
direction_of g.up = up
direction_of g.down = down

-- where a side of an operation stands: C may pass over the right one of two conditions
abbrev pub right_of : (conditions : Bool) → State → State
right_of conditions st = if conditions then passable st else st

-- hidden variables are taken from h on; all of the statement stands in this line
module _ (integers : Integers) (line : ℕ) where
  -- the numbers of an operation, whose sign stands at this place, are in their ranges
  abbrev pub ranged : (sign h : ℕ) → Expression → Result Expression FunctionFault
  ranged sign h e = provided (fits (elaborated integers line e h)) (BigNumber sign) e

  -- so are those of an expression as a condition, the first token being at this place
  abbrev pub as_condition : (first h : ℕ) → Expression → Result Expression FunctionFault
  as_condition first h e = provided (tested_fits (tested (elaborated integers line e h))) (BigNumber first) e

  -- the hidden variable behind an expression, as a value, a number, a condition
  abbrev pub behind : Expression → ℕ → ℕ
  behind e h = (elaborated integers line e h).next

  -- likewise as a number
  abbrev pub behind_number : Expression → ℕ → ℕ
  behind_number e h = (numbered integers line (elaborated integers line e h)).next

  -- an operation on two numbers
  abbrev pub operated : Op → (sign h : ℕ) → (e f : Expression) → Result Expression FunctionFault
  operated g.or_op sign h e f = Ok (either e f)
  operated g.and_op sign h e f = Ok (both e f)
  operated (g.compare_op r) sign h e f = ranged sign h (compared (rel_of r) sign e f)
  operated g.plus_op sign h e f = ranged sign h (joined plus sign e f)
  operated g.minus_op sign h e f = ranged sign h (joined minus sign e f)
  operated g.times_op sign h e f = ranged sign h (joined times sign e f)
  operated g.over_op sign h e f = ranged sign h (joined over sign e f)
  operated g.remainder_op sign h e f = ranged sign h (joined remainder sign e f)

  -- whether its sides are conditions
  abbrev pub joins_conditions : Op → Bool
  joins_conditions g.or_op = true
  joins_conditions g.and_op = true
  joins_conditions (g.compare_op r) = false
  joins_conditions g.plus_op = false
  joins_conditions g.minus_op = false
  joins_conditions g.times_op = false
  joins_conditions g.over_op = false
  joins_conditions g.remainder_op = false

  -- a side of it, and the hidden variable behind that
  abbrev pub side : (condition : Bool) → (first h : ℕ) → Expression → Result Expression FunctionFault
  side true first h e = as_condition first h e
  side false first h e = Ok e

  -- the hidden variable behind a side
  abbrev pub behind_side : (condition : Bool) → Expression → ℕ → ℕ
  behind_side true e h = behind e h
  behind_side false e h = behind_number e h

  -- what stands before one operand
  abbrev pub prefixed : Prefix → (sign first h : ℕ) → Expression → Result Expression FunctionFault
  prefixed g.negative sign first h e = ranged sign h (negative sign e)
  prefixed g.positive sign first h e = Ok (positive sign e)
  prefixed g.negation sign first h e = as_condition first h e >>= λ e. Ok (inverse sign e)

  -- a name as an operand: a variable, or the number that a constant is
  abbrev pub operand : (at h : ℕ) → Option Thing → Result Expression FunctionFault
  operand at h None = Err (UnknownName at)
  operand at h (Some (names.variable i)) = Ok (variable i at)
  operand at h (Some (names.array extents)) = Err (WrongKind at)
  operand at h (Some (names.constant v)) = ranged at h (number v at)

  abbrev mutual
    -- an expression
    pub read : State → Expr → ℕ → Result Expression FunctionFault
    read st (tree.number v a) h = ranged a h (number (pos v) a)
    read st (tree.variable x a) h = operand a h (thing_of x st)
    read st (tree.element x a is) h =
        array_of x a (subscript_count is) st >>= λ extents. read_subscripts st a extents is h >>= λ is. Ok (element is a)
    read st (tree.stepped_behind x a d b) h = stepped_of x a b st >>= λ i. Ok (stepped (direction_of d) source.behind i b a)
    read st (tree.stepped_before d a x b) h = stepped_of x b a st >>= λ i. Ok (stepped (direction_of d) before i a a)
    read st (tree.call x a b es c) h = as_called a (thing_of x st) a >>= λ a. read_arguments st es h >>= λ es. Ok (call es a)
    read st (tree.free a b c) h = Ok (unknown a)
    read st (tree.grouped a e b) h = read st e h >>= λ e. Ok (grouped a e)
    read st (tree.prefixed p a e) h = read st e h >>= λ x. prefixed p a (first_of e) h x
    read st (tree.joined e o a f) h =
        let conditions = joins_conditions o in
        read st e h >>= λ x. side conditions (first_of e) h x
        >>= λ x. read (right_of conditions st) f (behind_side conditions x h)
        >>= λ y. side conditions (first_of f) (behind_side conditions x h) y
        >>= λ y. operated o a h x y
    read st (tree.chosen c a e b f) h =
        read st c h >>= λ x. as_condition (first_of c) h x
        >>= λ x. read (passable st) e (behind x h)
        >>= λ y. read (passable st) f (behind_number y (behind x h))
        >>= λ z. ranged a h (chosen a x y z)

    -- the indexes of an element of the array at this place, from the left, each with its check in range before the next
    pub read_subscripts : State → (at : ℕ) → List Extent → tree.Subscripts → ℕ → Result Subscripts FunctionFault
    read_subscripts st at [] is h = Err (WrongKind at)
    read_subscripts st at (x ∷ xs) (last_subscript a e b) h =
        read st e h >>= λ i. ranged a h (element (subscript x a i no_subscript) at) >>= λ y. Ok (subscript x a i no_subscript)
    read_subscripts st at (x ∷ xs) (next_subscript a e b is) h =
        read st e h >>= λ i. ranged a h (element (subscript x a i no_subscript) at)
        >>= λ y. read_subscripts st at xs is (behind_number i h) >>= λ ys. Ok (subscript x a i ys)

    -- the arguments of a call, whose values are not used; the name of an array alone is nothing to evaluate
    pub read_arguments : State → Arguments → ℕ → Result Expressions FunctionFault
    read_arguments st no_arguments h = Ok none
    read_arguments st (arguments e es) h =
        if is_array_name st e then read_more st es h else (read st e h >>= λ x. read_more st es (behind x h) >>= λ xs. Ok (more x xs))

    -- the arguments behind the first
    pub read_more : State → MoreArguments → ℕ → Result Expressions FunctionFault
    read_more st last_argument h = Ok none
    read_more st (next_argument a e es) h =
        if is_array_name st e then read_more st es h else (read st e h >>= λ x. read_more st es (behind x h) >>= λ xs. Ok (more x xs))

  abbrev mutual
    -- a value of an array; a list in braces is evaluated as arguments are
    pub read_value : State → Value → ℕ → Result Expression FunctionFault
    read_value st (one_value e) h = read st e h
    read_value st (braced a vs b) h = read_values st vs h >>= λ es. Ok (call es a)

    -- the values of an array, which are not kept
    pub read_values : State → Values → ℕ → Result Expressions FunctionFault
    read_values st no_values h = Ok none
    read_values st (values v vs) h = read_value st v h >>= λ x. read_more_values st vs (behind x h) >>= λ xs. Ok (more x xs)

    -- the values behind the first
    pub read_more_values : State → MoreValues → ℕ → Result Expressions FunctionFault
    read_more_values st last_value h = Ok none
    read_more_values st (last_comma a) h = Ok none
    read_more_values st (next_value a v vs) h = read_value st v h >>= λ x. read_more_values st vs (behind x h) >>= λ xs. Ok (more x xs)
