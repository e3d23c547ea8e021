-- An expression as its leftmost operand and the signs behind it, each with its right side.
use Rattle.std.specs.Prelude.{◌≡◌, ◌≤◌, ◌++◌, ℕ, suc, false, List, [], ◌∷◌, Result, Ok}
use Rattle.source_tree.specs.Expressions.{Expression, Expressions, chosen, none, more}
use Rattle.source_core.specs.Elaborated.{evaluated}
use Rattle.source_grammar.specs.Tokens.{Op, Token, token, infix_sign, level}
use Rattle.source_grammar.specs.Grammar.{Expr, MoreArguments, spell_expr, Groups}
use Rattle.source_meaning.specs.declared.fault.FunctionFault.{FunctionFault}
use Rattle.source_meaning.specs.Results.{◌>>=◌}
use Rattle.source_meaning.specs.Names.{State, passable}
use Rattle.source_meaning.specs.Expressions.{first_of, read, read_more, side, behind_side, operated, joins_conditions}
use Rattle.source_meaning.specs.Expressions.{as_condition, ranged, behind, behind_number, right_of}
use Rattle.source_reader.specs.Reading.{first_kind}
use Rattle.source_expression.specs.Signs.{goes_on}
use Rattle.base_integers.specs.declared.integers.Integers.{Integers}

-- a sign at its place, with its right side
pub record Join : Type 0 where
  pub op : Op
  pub at : ℕ
  pub right : Expr

-- how they are spelled
abbrev pub spell_joins : List Join → List Token
spell_joins [] = []
spell_joins (j ∷ js) = token (infix_sign j.op) j.at ∷ (spell_expr j.right ++ spell_joins js)

-- no sign holds looser than this level, and none tighter than the one before it; each right side groups as it must
abbrev pub Falls : (least most : ℕ) → List Join → Type 0
Falls least most [] = Unit {0}
Falls least most (j ∷ js) = (least ≤ level j.op) × (level j.op ≤ most) × Groups (suc (level j.op)) j.right × Falls least (level j.op) js

-- an expression, in which no sign holds looser than this level, ends before these tokens
abbrev pub Stops : (least : ℕ) → List Token → Type 0
Stops least ts = goes_on least (first_kind ts) ≡ false

-- expressions, and one more
abbrev pub with_last : Expressions → Expressions → Expressions
with_last none ys = ys
with_last (more x xs) ys = more x (with_last xs ys)

module _ (integers : Integers) (line : ℕ) where
  module _ (st : State) where
    -- what an operand that was read is with one sign and its right side; the first token of the operand is at this place. C may pass over
    -- the right one of two conditions
    abbrev pub joined_with : (first : ℕ) → Expression → Join → (h : ℕ) → Result Expression FunctionFault
    joined_with first x j h =
        side integers line (joins_conditions integers line j.op) first h x
        >>= λ x. read integers line (right_of (joins_conditions integers line j.op) st) j.right
        (behind_side integers line (joins_conditions integers line j.op) x h)
        >>= λ y. side integers line (joins_conditions integers line j.op) (first_of j.right) (behind_side integers line
        (joins_conditions integers line j.op) x h) y
        >>= λ y. operated integers line j.op j.at h x y

    -- and with several
    abbrev pub goes_with : (first : ℕ) → Expression → List Join → (h : ℕ) → Result Expression FunctionFault
    goes_with first x [] h = Ok x
    goes_with first x (j ∷ js) h = joined_with first x j h >>= λ y. goes_with first y js h

    -- what an expression that was read is as the condition of a choice between two others, with the places of its first token and of `?`. C
    -- passes over one of these
    abbrev pub chosen_with : (first sign : ℕ) → Expression → (e f : Expr) → (h : ℕ) → Result Expression FunctionFault
    chosen_with first sign x e f h =
        as_condition integers line first h x
        >>= λ x. read integers line (passable st) e (behind integers line x h)
        >>= λ y. read integers line (passable st) f (behind_number integers line y (behind integers line x h))
        >>= λ z. ranged integers line sign h (chosen sign x y z)

    -- an expression as a condition
    abbrev pub read_condition : Expr → (h : ℕ) → Result Expression FunctionFault
    read_condition e h = read integers line st e h >>= λ x. as_condition integers line (first_of e) h x

    -- arguments behind some that were read
    abbrev pub read_behind : Expressions → MoreArguments → (h : ℕ) → Result Expressions FunctionFault
    read_behind xs es h = read_more integers line st es (evaluated integers line xs h).next >>= λ ys. Ok (with_last xs ys)
