-- Arguments, values and indexes, one behind the other.
use Rattle.std.specs.Prelude.{ℕ, List, Bool, true, false, Result, Ok, if◌then◌else◌}
use Rattle.source_tree.specs.Expressions.{Expression, Expressions, none, more, element, Extent, Subscripts, no_subscript, subscript}
use Rattle.source_core.specs.Elaborated.{evaluated, indexed}
use Rattle.source_grammar.specs.Tokens as g
use Rattle.source_grammar.specs.Tokens.{Kind}
use Rattle.source_grammar.specs.Grammar as tree
use Rattle.source_grammar.specs.Grammar.{Expr, Value, MoreValues}
use Rattle.source_meaning.specs.declared.fault.FunctionFault.{FunctionFault}
use Rattle.source_meaning.specs.Results.{◌>>=◌}
use Rattle.source_meaning.specs.Names.{State}
use Rattle.source_meaning.specs.Expressions.{is_array_name, read, ranged, read_subscripts, read_value, read_more_values}
use Rattle.source_expression.specs.Joins.{with_last}
use Rattle.base_integers.specs.declared.integers.Integers.{Integers}

-- the token may stand behind an argument
abbrev pub ends_argument : Kind → Bool
ends_argument g.comma = true
ends_argument g.right_paren = true
ends_argument k = false

-- expressions and one more behind them
abbrev pub and_one : Expressions → Expression → Expressions
and_one xs x = with_last xs (more x none)

-- indexes, and others behind them
abbrev pub and_indexes : Subscripts → Subscripts → Subscripts
and_indexes no_subscript zs = zs
and_indexes (subscript extent bracket i ys) zs = subscript extent bracket i (and_indexes ys zs)

module _ (integers : Integers) (line : ℕ) where
  module _ (st : State) where
    -- an expression behind some that were read
    abbrev pub read_one : Expressions → Expr → (h : ℕ) → Result Expressions FunctionFault
    read_one xs e h = read integers line st e (evaluated integers line xs h).next >>= λ x. Ok (and_one xs x)

    -- an argument behind them; the name of an array alone is nothing to evaluate
    abbrev pub read_argument : Expressions → Expr → (h : ℕ) → Result Expressions FunctionFault
    read_argument xs e h = if is_array_name st e then Ok xs else read_one xs e h

    -- a value of an array behind them
    abbrev pub read_listed : Expressions → Value → (h : ℕ) → Result Expressions FunctionFault
    read_listed xs v h = read_value integers line st v (evaluated integers line xs h).next >>= λ x. Ok (and_one xs x)

    -- values behind them
    abbrev pub read_values_behind : Expressions → MoreValues → (h : ℕ) → Result Expressions FunctionFault
    read_values_behind xs vs h =
        read_more_values integers line st vs (evaluated integers line xs h).next >>= λ ys. Ok (with_last xs ys)

    -- an element of the array at this place, by its extents
    abbrev pub read_element : (at : ℕ) → List Extent → tree.Subscripts → (h : ℕ) → Result Expression FunctionFault
    read_element at extents is h = read_subscripts integers line st at extents is h >>= λ ys. Ok (element ys at)

    -- an index within this extent, of an element of the array at this place, behind those that were read
    abbrev pub read_index : (at : ℕ) → Subscripts → Extent → (bracket : ℕ) → Expr → (h : ℕ) → Result Subscripts FunctionFault
    read_index at ys extent bracket e h =
        read integers line st e (indexed integers line ys h).next
        >>= λ i. ranged integers line bracket (indexed integers line ys h).next (element (subscript extent bracket i no_subscript) at)
        >>= λ y. Ok (and_indexes ys (subscript extent bracket i no_subscript))
