-- What an expression by itself means: a number, a condition or `nondet()`, or its first fault.
use Rattle.std.specs.Prelude.{ℕ, suc, zero, List, [], ◌∷◌, length, Result, Ok}
use Rattle.lang_grammar.specs.Grammar.{Token, token, Expr}
use Rattle.lang_tokens.specs.Lines.{line_at}
use Rattle.lang_tree.specs.declared.form.Form.{Form}
use Rattle.lang_tree.specs.Tree.{Condition, free}
use Rattle.lang_meaning.specs.declared.fault.ParseFault.{ParseFault}
use Rattle.lang_meaning.specs.Results.{◌>>=◌}
use Rattle.lang_meaning.specs.Walk.{Value, a_form, a_truth, a_nondet, State, as_condition, few_leaves, walk_expr}

-- what an expression is
pub data Meaning : Type 0 where
  a_number : Form → Meaning
  a_condition : Condition → Meaning
  a_choice : Meaning

-- the numbers from one on, so many
abbrev pub numbers_from : ℕ → ℕ → List ℕ
numbers_from i zero = []
numbers_from i (suc n) = i ∷ numbers_from (suc i) n

-- All these names are known; the number of a name is its first place.
abbrev pub knowing : List (List ℕ) → State
knowing names = record { names = names; known = numbers_from 0 (length names); labels = []; count = 0 }

-- what a value is that begins at this place; the leaves of a condition are counted last
abbrev pub meaning_of : ℕ → Value → Result Meaning ParseFault
meaning_of a (a_form f first) = Ok (a_number f)
meaning_of a (a_truth c) = few_leaves a c >>= λ d. Ok (a_condition d)
meaning_of a (a_nondet b) = Ok a_choice

-- the place of the first of these tokens
abbrev pub first_place : List Token → ℕ
first_place [] = 0
first_place (token k a ∷ ts) = a

-- what this expression means over these names
abbrev pub meant : List ℕ → List (List ℕ) → ℕ → Expr → Result Meaning ParseFault
meant text names a e = walk_expr (line_at text) (length names) (knowing names) e >>= λ v. meaning_of a v

-- an expression that begins at this place, as a condition
abbrev pub as_truth : ℕ → Meaning → Result Condition ParseFault
as_truth a (a_number f) = as_condition (a_form f a)
as_truth a (a_condition c) = Ok c
as_truth a a_choice = Ok free
