-- What a change of a place is, or its first fault: the place's name before its index, the index before the right side.
use Rattle.std.specs.Prelude.{ℕ, pos, [], length, Result, Ok}
use Rattle.source_grammar.specs.Tokens as g
use Rattle.source_grammar.specs.Tokens.{Name}
use Rattle.source_grammar.specs.Grammar as tree
use Rattle.source_grammar.specs.Grammar.{Expr, Place, place, no_index, index, Effect, assigns, steps, Update, update, step_before}
use Rattle.source_grammar.specs.Grammar.{spell_update}
use Rattle.source_tree.specs.Expressions.{Expression, Expressions, number, variable, joined, none, more, plus, minus}
use Rattle.source_tree.specs.Expressions.{times, over, remainder}
use Rattle.source_tree.specs.Statements.{Change, sets, evaluates}
use Rattle.source_core.specs.Elaborated.{Result as Value, a_form, a_truth, any, Elaborated, elaborated, evaluated, numbered}
use Rattle.source_core.specs.Core.{change_deeds}
use Rattle.source_meaning.specs.declared.fault.FunctionFault.{FunctionFault}
use Rattle.source_meaning.specs.Results.{◌>>=◌}
use Rattle.source_meaning.specs.Names.{State, variable_of, among}
use Rattle.source_meaning.specs.Limits.{limited, counted}
use Rattle.source_meaning.specs.Expressions.{read, ranged, behind, behind_number}
use Rattle.base_integers.specs.declared.integers.Integers.{Integers}

-- a place with 1 more or less
abbrev pub stepped : g.Direction → (sign : ℕ) → Expression → Expression
stepped g.up sign old = joined plus sign old (number (pos 1) sign)
stepped g.down sign old = joined minus sign old (number (pos 1) sign)

-- the hidden variable behind a variable's new value: any value is taken without one
abbrev pub behind_taken : (integers : Integers) (line : ℕ) → Elaborated → Value → ℕ
behind_taken integers line e (a_form f) = (numbered integers line e).next
behind_taken integers line e (a_truth c) = (numbered integers line e).next
behind_taken integers line e any = e.next

-- over n variables, in this line
module _ (integers : Integers) (n line : ℕ) where
  -- the hidden variable behind a change
  abbrev pub behind_change : Change → ℕ
  behind_change (sets var e k) = behind_taken integers k (elaborated integers k e n) (elaborated integers k e n).result
  behind_change (evaluates es k) = (evaluated integers k es n).next

  -- the limits of a change that begins at this place
  abbrev pub few : {A : Type 0} → (at : ℕ) → Change → A → Result A FunctionFault
  few at g x = limited n at (behind_change g) (change_deeds integers n g) [] x

  -- the right side of an assignment to a variable, and its operation
  abbrev pub right_side : State → g.Change → (sign : ℕ) → (old : Expression) → Expr → Result Expression FunctionFault
  right_side st g.replaces sign old e = read integers line st e n
  right_side st g.adds sign old e = read integers line st e n >>= λ x. ranged integers line sign n (joined plus sign old x)
  right_side st g.subtracts sign old e = read integers line st e n >>= λ x. ranged integers line sign n (joined minus sign old x)
  right_side st g.multiplies sign old e = read integers line st e n >>= λ x. ranged integers line sign n (joined times sign old x)
  right_side st g.divides sign old e = read integers line st e n >>= λ x. ranged integers line sign n (joined over sign old x)
  right_side st g.remains sign old e = read integers line st e n >>= λ x. ranged integers line sign n (joined remainder sign old x)

  -- what is evaluated where an element is written: its index, for `=` not its old value, then the right side and the operation
  abbrev pub written : State → g.Change → (sign : ℕ) → (old : Expression) → Expr → Result Expressions FunctionFault
  written st g.replaces sign old e = read integers line st e (behind integers line old n) >>= λ x. Ok (more old (more x none))
  written st g.adds sign old e = read integers line st e (behind_number integers line old n)
      >>= λ x. ranged integers line sign n (joined plus sign old x) >>= λ y. Ok (more y none)
  written st g.subtracts sign old e = read integers line st e (behind_number integers line old n)
      >>= λ x. ranged integers line sign n (joined minus sign old x) >>= λ y. Ok (more y none)
  written st g.multiplies sign old e = read integers line st e (behind_number integers line old n)
      >>= λ x. ranged integers line sign n (joined times sign old x) >>= λ y. Ok (more y none)
  written st g.divides sign old e = read integers line st e (behind_number integers line old n)
      >>= λ x. ranged integers line sign n (joined over sign old x) >>= λ y. Ok (more y none)
  written st g.remains sign old e = read integers line st e (behind_number integers line old n)
      >>= λ x. ranged integers line sign n (joined remainder sign old x) >>= λ y. Ok (more y none)

  -- what is done to a variable, and to an element
  abbrev pub affected : State → (var at : ℕ) → Effect → Result Change FunctionFault
  affected st i at (assigns c sign e) = right_side st c sign (variable i at) e >>= λ x. Ok (sets i x line)
  affected st i at (steps d sign) = ranged integers line sign n (stepped d sign (variable i at)) >>= λ x. Ok (sets i x line)

  -- what is done to an element, whose old value this is
  abbrev pub evaluated_by : State → (old : Expression) → Effect → Result Change FunctionFault
  evaluated_by st old (assigns c sign e) = written st c sign old e >>= λ es. Ok (evaluates es line)
  evaluated_by st old (steps d sign) = ranged integers line sign n (stepped d sign old) >>= λ x. Ok (evaluates (more x none) line)

  -- an element of an array
  abbrev pub read_element : State → Name → (at : ℕ) → tree.Subscripts → Result Expression FunctionFault
  read_element st x at is = read integers line st (tree.element x at is) n

  -- what is done to a place
  abbrev pub changed : State → Place → Effect → Result Change FunctionFault
  changed st (place x a no_index) f = variable_of x a st >>= λ i. affected st i a f
  changed st (place x a (index is)) f = read_element st x a is >>= λ old. evaluated_by st old f

-- the place of a change's first token
abbrev pub first_place : Place → ℕ
first_place (place x a i) = a

module _ (integers : Integers) (line : ℕ → ℕ) (n : ℕ) where
  -- a change, its limits told last; an expression in it stands among its tokens
  abbrev pub read_update : State → Update → Result (State × Change) FunctionFault
  read_update st (update p f) =
      let at = first_place p in
      changed integers n (line at) (among (spell_update (update p f)) st) p f >>= λ g. few integers n (line at) at g g
      >>= λ g. counted at (length (change_deeds integers n g)) st >>= λ st. Ok (st, g)
  read_update st (step_before d at p) =
      changed integers n (line at) (among (spell_update (step_before d at p)) st) p (steps d at) >>= λ g. few integers n (line at) at g g
      >>= λ g. counted at (length (change_deeds integers n g)) st >>= λ st. Ok (st, g)
