-- The names of a function: its variables, arrays and labels, and where they are known and may be stepped.
use Rattle.std.specs.Prelude.{ℕ, zero, suc, ℤ, ◌-◌, Bool, true, false, List, [], ◌∷◌, length, nat_lt, nat_eq, Option, Some, None, Result}
use Rattle.std.specs.Prelude.{Ok}
use Rattle.std.specs.Prelude.{Err, count_by}
use Rattle.std.specs.Prelude.{if◌then◌else◌}
use Rattle.std.specs.Str.{bytes_eq}
use Rattle.lang_tree.specs.declared.limits.TheConstants.{MOST_VARIABLES}
use Rattle.source_grammar.specs.Tokens.{Name, Token, token, a_name}
use Rattle.source_tree.specs.Expressions.{Extent}
use Rattle.source_meaning.specs.declared.fault.FunctionFault.{FunctionFault}
use Rattle.source_meaning.specs.declared.fault.FunctionFault.TheVariants.{UnknownName, NameTwice, WrongKind, SideEffect}
use Rattle.source_meaning.specs.declared.fault.FunctionFault.TheVariants as fault
use Rattle.source_meaning.specs.declared.fault.Limit.TheVariants as limit
use Rattle.source_meaning.specs.Results.{◌>>=◌, provided}

-- what a name is: the variable of this number, an array by the extents of its indexes, or a constant
pub data Thing : Type 0 where
  variable : (number : ℕ) → Thing
  array : (extents : List Extent) → Thing
  constant : (value : ℤ) → Thing

-- a variable or an array that was declared; one that is declared again stands there twice
pub record Named : Type 0 where
  -- its text
  pub name : List ℕ
  -- what it is
  pub thing : Thing
  -- whether it is known here
  pub is_known : Bool

-- what has been met
pub record State : Type 0 where
  -- the declarations so far, the last one first
  pub names : List Named
  -- the variables so far, the last one first
  pub variables : List (List ℕ)
  -- the labels
  pub labels : List (List ℕ)
  -- how many statements the program has
  pub count : ℕ
  -- the tokens among which an expression stands, where C comes to each step in it; none where it may pass over one, and outside of
  -- expressions
  pub around : Option (List Token)

-- nothing has been met
abbrev pub start_state : State
start_state = record { names = []; variables = []; labels = []; count = 0; around = None }

-- the last declaration of a name, known or not
abbrev pub declared : List ℕ → List Named → Option Named
declared x [] = None
declared x (n ∷ ns) = if bytes_eq x n.name then Some n else declared x ns

-- a name that is known
abbrev pub known_if : Named → Option Thing
known_if n = if n.is_known then Some n.thing else None

-- what a name is that is known
abbrev pub known : List ℕ → List Named → Option Thing
known x ns = elim (declared x ns) [ None ↦ None | Some n ↦ known_if n ]

-- what a name is where it stands: a constant there, or what it was declared as
abbrev pub thing_of : Name → State → Option Thing
thing_of x st = elim x.value [ None ↦ known x.text st.names | Some v ↦ Some (constant v) ]

-- the variable of this name at this place
abbrev pub as_variable : (at : ℕ) → Option Thing → Result ℕ FunctionFault
as_variable at None = Err (UnknownName at)
as_variable at (Some (variable i)) = Ok i
as_variable at (Some (array extents)) = Err (WrongKind at)
as_variable at (Some (constant v)) = Err (WrongKind at)

-- the extents of the array of this name, which has so many indexes
abbrev pub as_array : (at count : ℕ) → Option Thing → Result (List Extent) FunctionFault
as_array at count None = Err (UnknownName at)
as_array at count (Some (variable i)) = Err (WrongKind at)
as_array at count (Some (array extents)) = provided (nat_eq (length extents) count) (WrongKind at) extents
as_array at count (Some (constant v)) = Err (WrongKind at)

-- a name may be called that is nothing of these
abbrev pub as_called : {A : Type 0} → (at : ℕ) → Option Thing → A → Result A FunctionFault
as_called at None x = Ok x
as_called at (Some thing) x = Err (WrongKind at)

-- the variable of a name
abbrev pub variable_of : Name → (at : ℕ) → State → Result ℕ FunctionFault
variable_of x at st = as_variable at (thing_of x st)

-- an expression stands among these tokens: those of its change, its declarator, its condition, its call, or what is returned
abbrev pub among : List Token → State → State
among ts st = record st { around = Some ts }

-- C may pass over the expression
abbrev pub passable : State → State
passable st = record st { around = None }

-- a token is this name, where that is no constant
abbrev pub is_named : List ℕ → Token → Bool
is_named x (token (a_name y) a) = elim y.value [ None ↦ bytes_eq x y.text | Some v ↦ false ]
is_named x (token k a) = false

-- a name stands once among tokens, where C comes to each step
abbrev pub stands_once : List ℕ → Option (List Token) → Bool
stands_once x None = false
stands_once x (Some ts) = nat_eq (count_by (is_named x) ts) 1

-- the variable of a name that is stepped by the sign at this place; it occurs nowhere else around the step
abbrev pub stepped_of : Name → (at sign : ℕ) → State → Result ℕ FunctionFault
stepped_of x at sign st = variable_of x at st >>= λ i. provided (stands_once x.text st.around) (SideEffect sign) i

-- the extents of the array of a name
abbrev pub array_of : Name → (at count : ℕ) → State → Result (List Extent) FunctionFault
array_of x at count st = as_array at count (thing_of x st)

-- what a name was declared as before, if it was; it may be declared here where it is no constant and isn't known
abbrev pub fresh : Name → (at : ℕ) → State → Result (Option Thing) FunctionFault
fresh x at st = elim x.value [
  | Some v ↦ Err (NameTwice at)
  | None ↦ elim (declared x.text st.names) [
    | None ↦ Ok None
    | Some n ↦ if n.is_known then Err (NameTwice at) else Ok (Some n.thing)
  ]
]

-- a name is declared
abbrev pub with_name : List ℕ → Thing → State → State
with_name x t st = record st { names = record { name = x; thing = t; is_known = true } ∷ st.names }

-- a name is declared as a variable: as one more, within the limit, or as the one that it was before
abbrev pub as_variable_again : List ℕ → (at : ℕ) → State → Option Thing → Result State FunctionFault
as_variable_again x at st None = provided (nat_lt (length st.variables) MOST_VARIABLES) (fault.Limit at limit.Variables)
    (with_name x (variable (length st.variables)) (record st { variables = x ∷ st.variables }))
as_variable_again x at st (Some (variable i)) = Ok (with_name x (variable i) st)
as_variable_again x at st (Some (array extents)) = Err (NameTwice at)
as_variable_again x at st (Some (constant v)) = Err (NameTwice at)

-- a variable is declared
abbrev pub with_variable : Name → (at : ℕ) → State → Result State FunctionFault
with_variable x at st = fresh x at st >>= λ before. as_variable_again x.text at st before

-- the number of a variable
abbrev pub number_in : Thing → ℕ
number_in (variable i) = i
number_in (array extents) = 0
number_in (constant v) = 0

-- the number of the variable that was declared last
abbrev pub declared_number : State → ℕ
declared_number st = elim st.names [ [] ↦ 0 | n ∷ ns ↦ number_in n.thing ]

-- a name may be declared as an array: it is new, or was one before
abbrev pub as_array_again : (at : ℕ) → Option Thing → State → Result State FunctionFault
as_array_again at None st = Ok st
as_array_again at (Some (variable i)) st = Err (NameTwice at)
as_array_again at (Some (array extents)) st = Ok st
as_array_again at (Some (constant v)) st = Err (NameTwice at)

-- the name of an array may be declared here
abbrev pub fresh_array : Name → (at : ℕ) → State → Result State FunctionFault
fresh_array x at st = fresh x at st >>= λ before. as_array_again at before st

-- an array is declared
abbrev pub with_array : Name → List Extent → State → State
with_array x extents st = with_name x.text (array extents) st

-- names are known no longer
abbrev pub forgotten : ℕ → List Named → List Named
forgotten zero ns = ns
forgotten (suc k) [] = []
forgotten (suc k) (n ∷ ns) = record n { is_known = false } ∷ forgotten k ns

-- those that were declared since there were so many are known no longer
abbrev pub closed : ℕ → State → State
closed before st = record st { names = forgotten (length st.names - before) st.names }
