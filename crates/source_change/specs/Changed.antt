-- Places and changes that were read.
use Rattle.std.specs.Prelude.{◌≡◌, ℕ, Option, Some, None, Result, Ok, length}
use Rattle.source_grammar.specs.Tokens as g
use Rattle.source_grammar.specs.Tokens.{Name}
use Rattle.source_grammar.specs.Grammar.{Index, no_index, index, Effect, steps, Update, update, step_before}
use Rattle.source_tree.specs.Expressions.{Expression, variable, none, more, Operation, plus, minus, times, over, remainder}
use Rattle.source_tree.specs.Statements.{Change, sets, evaluates}
use Rattle.source_core.specs.Elaborated.{elaborated, evaluated}
use Rattle.source_value.specs.Stands.{Stands, StandsEvaluated}
use Rattle.source_meaning.specs.declared.fault.FunctionFault.{FunctionFault}
use Rattle.source_meaning.specs.Results.{◌>>=◌}
use Rattle.source_meaning.specs.Names.{State, variable_of}
use Rattle.source_meaning.specs.Changes.{affected, changed, evaluated_by, few, read_element}
use Rattle.source_meaning.specs.Limits.{counted}
use Rattle.source_core.specs.Core.{change_deeds}
use Rattle.source_change.specs.declared.deeds.Changed.{Changed}
use Rattle.source_change.specs.declared.deeds.Changed.TheVariants as code
use Rattle.source_change.specs.declared.places.Target.{Target}
use Rattle.base_integers.specs.declared.integers.Integers.{Integers}

-- a place with its name resolved: a variable, or an element of an array
pub data Aim : Type 0 where
  a_variable : (var at : ℕ) → Aim
  an_element : Expression → Aim

-- the value of a place
abbrev pub old_of : Aim → Expression
old_of (a_variable i a) = variable i a
old_of (an_element e) = e

-- the variable that a place is, if it is one
abbrev pub var_of : Aim → Option ℕ
var_of (a_variable i a) = Some i
var_of (an_element e) = None

-- over n variables, in this line
module _ (integers : Integers) (n line : ℕ) where
  -- the code has this change
  abbrev pub StandsChange : Changed → Change → Type 0
  StandsChange (code.Sets var value) (sets i e k) = (var ≡ i) × (k ≡ line) × Stands n value (elaborated integers line e n)
  StandsChange (code.Sets var value) (evaluates es k) = ⊥
  StandsChange (code.Evaluates all) (sets i e k) = ⊥
  StandsChange (code.Evaluates all) (evaluates es k) = (k ≡ line) × StandsEvaluated n all (evaluated integers line es n)

  -- the code has this place
  pub record StandsTarget (t : Target) (a : Aim) : Type 0 where
    pub old : Stands n t.old (elaborated integers line (old_of a) n)
    pub var : t.var ≡ var_of a

  -- what the place is that this name at this place, with these indexes, stands for
  abbrev pub aim : State → Name → (at : ℕ) → Index → Result Aim FunctionFault
  aim st x a no_index = variable_of x a st >>= λ i. Ok (a_variable i a)
  aim st x a (index is) = read_element integers n line st x a is >>= λ old. Ok (an_element old)

  -- what a change does to its place
  abbrev pub changed_by : State → Update → Result Change FunctionFault
  changed_by st (update p f) = changed integers n line st p f
  changed_by st (step_before d at p) = changed integers n line st p (steps d at)

  -- what is done to a place
  abbrev pub done_to : State → Aim → Effect → Result Change FunctionFault
  done_to st (a_variable i a) f = affected integers n line st i a f
  done_to st (an_element old) f = evaluated_by integers n line st old f

-- a place takes a value; an element is only evaluated
abbrev pub change_to : Aim → Expression → (line : ℕ) → Change
change_to (a_variable i a) e line = sets i e line
change_to (an_element old) e line = evaluates (more e none) line

-- the operation of an assignment that uses the place's value
abbrev pub joined_by : g.Change → Option Operation
joined_by g.replaces = None
joined_by g.adds = Some plus
joined_by g.subtracts = Some minus
joined_by g.multiplies = Some times
joined_by g.divides = Some over
joined_by g.remains = Some remainder

-- a change within its limits, which counts as statements
abbrev pub counted_change : (integers : Integers) (n line at : ℕ) → State → Change → Result (State × Change) FunctionFault
counted_change integers n line at st g = few integers n line at g g >>= λ g. counted at (length
    (change_deeds integers n g)) st >>= λ st. Ok (st, g)

-- the operation of a step
abbrev pub step_by : g.Direction → Operation
step_by g.up = plus
step_by g.down = minus
