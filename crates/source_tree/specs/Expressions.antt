-- Expressions of C. A variable is its number. Places are counted in bytes from 0: `at` is that of an expression's first token, `sign` that
-- of the sign between its operands, `bracket` that of an index's bracket.
use Rattle.std.specs.Prelude.{ℕ, ℤ}
use Rattle.lang_tree.specs.declared.cond.Rel.{Rel}

-- what is done with two numbers
pub data Operation : Type 0 where
  -- `+`
  plus : Operation
  -- `-`
  minus : Operation
  -- `*`
  times : Operation
  -- `/`
  over : Operation
  -- `%`
  remainder : Operation

-- where a step of a variable goes
pub data Direction : Type 0 where
  -- `++`
  up : Direction
  -- `--`
  down : Direction

-- where the sign of a step stands, and so what its value is
pub data Moment : Type 0 where
  -- before the name: what the variable has behind the step
  before : Moment
  -- behind the name: what the variable had before the step
  behind : Moment

-- how many elements an array has
pub data Extent : Type 0 where
  -- one at each index from 0 on
  endless : Extent
  -- so many
  elements : ℕ → Extent

mutual
  -- an expression of C
  pub data Expression : Type 0 where
    -- a number, or a constant's
    number : (value : ℤ) → (at : ℕ) → Expression
    -- a variable
    variable : (var at : ℕ) → Expression
    -- `nondet()`
    unknown : (at : ℕ) → Expression
    -- a call of a function with these arguments; nothing is known of its answer
    call : Expressions → (at : ℕ) → Expression
    -- an element of an array, by its indexes
    element : Subscripts → (at : ℕ) → Expression
    -- a step of a variable: its value is taken, and the variable is changed by 1
    stepped : Direction → Moment → (var sign at : ℕ) → Expression
    -- one in parentheses
    grouped : (at : ℕ) → Expression → Expression
    -- `-e`
    negative : (at : ℕ) → Expression → Expression
    -- `+e`
    positive : (at : ℕ) → Expression → Expression
    -- `!e`
    inverse : (at : ℕ) → Expression → Expression
    -- an operation on two numbers
    joined : Operation → (sign : ℕ) → Expression → Expression → Expression
    -- a comparison, which is 1 or 0
    compared : Rel → (sign : ℕ) → Expression → Expression → Expression
    -- `c && d`
    both : Expression → Expression → Expression
    -- `c || d`
    either : Expression → Expression → Expression
    -- `c ? e : f`, with the place of its `?`
    chosen : (sign : ℕ) → (condition yes no : Expression) → Expression

  -- the indexes of an element, from the left
  pub data Subscripts : Type 0 where
    no_subscript : Subscripts
    -- one within this extent, with the place of its bracket
    subscript : Extent → (bracket : ℕ) → (index : Expression) → Subscripts → Subscripts

  -- expressions in order: the arguments of a call, or what is evaluated without use of its value
  pub data Expressions : Type 0 where
    none : Expressions
    more : Expression → Expressions → Expressions
