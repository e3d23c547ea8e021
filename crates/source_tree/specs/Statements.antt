-- Statements of C. A function's variables are numbers, its parameters the first of them. Lines are counted from 1.
use Rattle.std.specs.Prelude.{ℕ, List}
use Rattle.lang_tree.specs.Tree.{Jump}
use Rattle.source_tree.specs.Expressions.{Expression, Expressions}

-- what changes the state, or only has to have values
pub data Change : Type 0 where
  -- an assignment, or a declaration with a value
  sets : (var : ℕ) → Expression → (line : ℕ) → Change
  -- expressions are evaluated, and their values not used: arguments, what is returned, or what is written to an element with its index
  evaluates : Expressions → (line : ℕ) → Change

-- where a loop tests its condition
pub data LoopKind : Type 0 where
  -- before its body
  while_loop : LoopKind
  -- before its body, with these changes behind it
  for_loop : List Change → LoopKind
  -- behind its body
  do_loop : LoopKind

mutual
  -- a statement of C, with its line
  pub data Statement : Type 0 where
    -- a declaration without a value: the variable has any
    declares : (var line : ℕ) → Statement
    -- a change
    changes : Change → Statement
    -- what `assume` asks: only runs go on in which it is true
    assumes : Expression → (line : ℕ) → Statement
    -- an `assert` at a place: only runs go on in which it is true
    asserts : Expression → (at line : ℕ) → Statement
    -- a place that is not to be reached
    never : (at line : ℕ) → Statement
    -- an `if` with its two branches, of which the second may be empty
    branch : Expression → (first second : Statements) → (line : ℕ) → Statement
    -- a loop with its condition and its body
    loop : LoopKind → Expression → (body : Statements) → (line : ℕ) → Statement
    -- a `break`, a `continue` or a `return`
    jump : Jump → (line : ℕ) → Statement
    -- a label
    label : (name : List ℕ) → (line : ℕ) → Statement

  -- statements in order
  pub data Statements : Type 0 where
    nil : Statements
    cons : Statement → Statements → Statements
