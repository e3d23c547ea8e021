-- A machine that finds the anchors of a function, token by token: a stack of what has still to come.
use Rattle.std.specs.Prelude.{◌++◌, ◌+◌, ℕ, List, [], ◌∷◌, length, take}
use Rattle.source_grammar.specs.Tokens.{Token, token}
use Rattle.acsl_anchors.specs.Anchors.{Scope, declared}
use Rattle.acsl_anchors.specs.Parts.{part_of}
use Rattle.acsl_anchors.specs.declared.part.Part.{Part}
use Rattle.acsl_anchors.specs.declared.part.Part.TheVariants as part
use Rattle.acsl_anchors.specs.declared.anchor.Anchor.{Anchor}
use Rattle.acsl_anchors.specs.declared.anchor.What.TheVariants as what
use Rattle.acsl_anchors.specs.declared.goal.Place.{Place}
use Rattle.acsl_anchors.specs.declared.goal.Place.TheVariants as place
use Rattle.acsl_anchors.specs.declared.goal.Goal.{Goal}
use Rattle.acsl_anchors.specs.declared.goal.Goal.TheVariants as goal
use Rattle.acsl_anchors.specs.declared.goal.Effect.{Effect}
use Rattle.acsl_anchors.specs.declared.goal.Effect.TheVariants as effect
use Rattle.acsl_anchors.specs.declared.goal.Next.{Next}
use Rattle.acsl_anchors.specs.declared.goal.Next.TheVariants as next
use Rattle.acsl_anchors.specs.declared.goal.Entry.{Entry}
use Rattle.acsl_anchors.specs.declared.goal.Entry.TheVariants as enters

-- what is taken without more
abbrev pub taken : Next → Entry
taken n = enters.Takes effect.Nothing n place.Sub

-- a right brace at this place: it ends a block, or the body
abbrev pub close_entry : Place → ℕ → Entry
close_entry place.Sub a = taken next.Zero
close_entry (place.Block n) a = taken (next.One (goal.Known n))
close_entry place.Body a = enters.Takes (effect.End a) next.Zero place.Sub

-- a `return` at this place: it may be the last item of the body
abbrev pub return_entry : Place → ℕ → Entry
return_entry place.Sub a = enters.Takes effect.Nothing (next.One goal.Rest) place.Sub
return_entry (place.Block n) a = enters.Takes effect.Nothing (next.One goal.Rest) (place.Block n)
return_entry place.Body a = enters.Takes effect.Nothing (next.One (goal.Returned a)) place.Body

-- what is returned by the `return` of the body that begins at `start`, of which no step has come: behind one it isn't the end
abbrev pub returned_entry : (start : ℕ) → Part → Entry
returned_entry f part.Semicolon = taken (next.One (goal.Ending f))
returned_entry f part.Step = taken (next.One goal.Rest)
returned_entry f _ = taken (next.One (goal.Returned f))

-- behind a `return` of the body that begins at `start`
abbrev pub ending_entry : (start : ℕ) → Part → Entry
ending_entry f part.RightBrace = enters.Takes (effect.End f) next.Zero place.Sub
ending_entry f _ = enters.Drops

-- what a statement's first token leaves to come, where n variables are known
abbrev pub statement_entry : Place → Part → (a n : ℕ) → Entry
statement_entry p (part.Name x) a n = enters.Takes effect.Nothing (next.One (goal.AfterName p a)) p
statement_entry p part.Semicolon a n = enters.Takes effect.Nothing next.Zero p
statement_entry p part.LeftBrace a n = enters.Takes effect.Nothing (next.One (goal.Statement (place.Block n))) p
statement_entry p part.RightBrace a n = close_entry p a
statement_entry p part.Int a n = enters.Takes effect.Nothing (next.One goal.Declaring) p
statement_entry p part.Const a n = enters.Takes effect.Nothing (next.One goal.Declaring) p
statement_entry p part.Return a n = return_entry p a
statement_entry p part.If a n = enters.Takes effect.Nothing (next.Three goal.Condition (goal.Statement place.Sub) goal.MaybeElse) p
statement_entry p part.While a n = enters.Takes (effect.Loop a) (next.Two goal.Condition (goal.Statement place.Sub)) p
statement_entry p part.Do a n = enters.Takes (effect.Loop a) (next.Two (goal.Statement place.Sub) goal.Rest) p
statement_entry p part.For a n = enters.Takes effect.Nothing (next.Three (goal.First a) (goal.Statement place.Sub) (goal.Known n)) p
statement_entry p _ a n = enters.Takes effect.Nothing (next.One goal.Rest) p

-- what a label leaves to come
abbrev pub label_next : Place → Next
label_next place.Sub = next.One (goal.Statement place.Sub)
label_next (place.Block n) = next.Zero
label_next place.Body = next.Zero

-- behind the name that stands first in a statement: a colon at this place, or the rest of an assignment or a step
abbrev pub name_entry : Place → (first : ℕ) → Part → ℕ → Entry
name_entry p f part.Colon a = enters.Takes (effect.Label f a) (label_next p) place.Sub
name_entry p f _ a = taken (next.One goal.Rest)

-- where an `else` may follow
abbrev pub else_entry : Part → Entry
else_entry part.Else = taken (next.One (goal.Statement place.Sub))
else_entry _ = enters.Drops

-- up to the end of a statement
abbrev pub rest_entry : Part → Entry
rest_entry part.Semicolon = taken next.Zero
rest_entry _ = taken (next.One goal.Rest)

-- the name that is declared, behind `int`
abbrev pub declaring_entry : Part → Entry
declaring_entry (part.Name x) = taken (next.One (goal.Named x))
declaring_entry _ = taken (next.One goal.Declaring)

-- behind this name, which is declared: an array is no variable
abbrev pub named_entry : List ℕ → Part → Entry
named_entry x part.LeftBracket = taken (next.One goal.Declared)
named_entry x part.Semicolon = enters.Takes (effect.Declares x) next.Zero place.Sub
named_entry x part.Comma = enters.Takes (effect.Declares x) (next.One goal.Declaring) place.Sub
named_entry x _ = enters.Takes (effect.Declares x) (next.One goal.Declared) place.Sub

-- behind that: a comma declares one more
abbrev pub declared_entry : Part → Entry
declared_entry part.Semicolon = taken next.Zero
declared_entry part.Comma = taken (next.One goal.Declaring)
declared_entry part.LeftParen = taken (next.Two goal.Paren goal.Declared)
declared_entry part.LeftBrace = taken (next.Two goal.Brace goal.Declared)
declared_entry _ = taken (next.One goal.Declared)

-- up to the brace that closes
abbrev pub brace_entry : Part → Entry
brace_entry part.LeftBrace = taken (next.Two goal.Brace goal.Brace)
brace_entry part.RightBrace = taken next.Zero
brace_entry _ = taken (next.One goal.Brace)

-- up to the parenthesis that closes
abbrev pub paren_entry : Part → Entry
paren_entry part.LeftParen = taken (next.Two goal.Paren goal.Paren)
paren_entry part.RightParen = taken next.Zero
paren_entry _ = taken (next.One goal.Paren)

-- the parenthesis of the head of the `for` that begins at `start`, and its first part
abbrev pub first_entry : (start : ℕ) → Part → Entry
first_entry f part.LeftParen = taken (next.One (goal.First f))
first_entry f part.Semicolon = taken (next.One (goal.Test f))
first_entry f part.Int = taken (next.Two goal.Declaring (goal.Test f))
first_entry f part.Const = taken (next.Two goal.Declaring (goal.Test f))
first_entry f _ = taken (next.Two goal.Rest (goal.Test f))

-- its condition; behind it what the head declares is known, and the loop is found
abbrev pub test_entry : (start : ℕ) → Part → Entry
test_entry f part.Semicolon = enters.Takes (effect.Loop f) (next.One goal.Paren) place.Sub
test_entry f _ = taken (next.One (goal.Test f))

-- up to the parenthesis of the parameters
abbrev pub front_entry : Part → Entry
front_entry part.LeftParen = taken (next.One goal.Parameters)
front_entry _ = taken (next.One goal.Front)

-- each `int` begins a parameter; the brace opens the body
abbrev pub parameters_entry : Part → Entry
parameters_entry part.LeftBrace = taken (next.One (goal.Statement place.Body))
parameters_entry part.Int = taken (next.One goal.Parameter)
parameters_entry _ = taken (next.One goal.Parameters)

-- its name stands behind `int` at once where it is no pointer
abbrev pub parameter_entry : Part → Entry
parameter_entry (part.Name x) = taken (next.One (goal.NamedParameter x))
parameter_entry _ = taken (next.One goal.Parameters)

-- behind this name, which is a variable where it is no array
abbrev pub named_parameter_entry : List ℕ → Part → Entry
named_parameter_entry x part.LeftBracket = taken (next.One goal.Parameters)
named_parameter_entry x _ = enters.Takes (effect.Declares x) (next.One goal.Parameters) place.Sub

-- what a goal makes of a token at this place, where n variables are known
abbrev pub entry : Goal → Part → (a n : ℕ) → Entry
entry goal.Front k a n = front_entry k
entry goal.Parameters k a n = parameters_entry k
entry goal.Parameter k a n = parameter_entry k
entry (goal.NamedParameter x) k a n = named_parameter_entry x k
entry (goal.Statement p) k a n = statement_entry p k a n
entry (goal.AfterName p f) k a n = name_entry p f k a
entry goal.MaybeElse k a n = else_entry k
entry goal.Rest k a n = rest_entry k
entry (goal.Returned f) k a n = returned_entry f k
entry (goal.Ending f) k a n = ending_entry f k
entry goal.Declaring k a n = declaring_entry k
entry (goal.Named x) k a n = named_entry x k
entry goal.Declared k a n = declared_entry k
entry goal.Brace k a n = brace_entry k
entry goal.Condition k a n = taken (next.One goal.Paren)
entry goal.Paren k a n = paren_entry k
entry (goal.First f) k a n = first_entry f k
entry (goal.Test f) k a n = test_entry f k
entry (goal.Known m) k a n = enters.Keeps m

-- the further statements of a place
abbrev pub after : Place → List Goal → List Goal
after place.Sub gs = gs
after (place.Block n) gs = goal.Statement (place.Block n) ∷ gs
after place.Body gs = goal.Statement place.Body ∷ gs

-- what has to come, before the rest
abbrev pub before : Next → List Goal → List Goal
before next.Zero gs = gs
before (next.One g) gs = g ∷ gs
before (next.Two g h) gs = g ∷ h ∷ gs
before (next.Three g h i) gs = g ∷ h ∷ i ∷ gs

-- what a token declares
abbrev pub scope_with : Effect → Scope → Scope
scope_with effect.Nothing s = s
scope_with (effect.Declares x) s = declared x s
scope_with (effect.Loop a) s = s
scope_with (effect.Label a b) s = s
scope_with (effect.End a) s = s

-- the anchor of a token, behind those that were found before
abbrev pub anchors_with : Effect → Scope → List Anchor → List Anchor
anchors_with effect.Nothing s found = found
anchors_with (effect.Declares x) s found = found
anchors_with (effect.Loop a) s found = found ++ record { what = what.Loop; first = a; place = a; known = s.known } ∷ []
anchors_with (effect.Label a b) s found = found ++ record { what = what.Label; first = a; place = b + 1; known = s.known } ∷ []
anchors_with (effect.End a) s found = found ++ record { what = what.End; first = a; place = a; known = s.known } ∷ []

-- only the first n variables are known
abbrev pub kept : ℕ → Scope → Scope
kept n s = record { variables = s.variables; known = take n s.known }

-- what has still to come, what has been declared, and the anchors so far
pub record State : Type 0 where
  pub goals : List Goal
  pub scope : Scope
  pub found : List Anchor

-- a state, by its parts
abbrev pub state : List Goal → Scope → List Anchor → State
state gs s found = record { goals = gs; scope = s; found = found }

-- the state behind a token: the goals that want nothing are left, and the first that takes it says what comes
abbrev pub step : List Goal → Part → ℕ → Scope → List Anchor → State
step [] k a s found = state [] s found
step (g ∷ gs) k a s found = elim (entry g k a (length s.known)) [
  | enters.Takes e n p ↦ state (before n (after p gs)) (scope_with e s) (anchors_with e s found)
  | enters.Drops ↦ step gs k a s found
  | enters.Keeps m ↦ step gs k a (kept m s) found
]

-- the state behind tokens
abbrev pub run : State → List Token → State
run st [] = st
run st (token k a ∷ ts) = run (step st.goals (part_of k) a st.scope st.found) ts

-- a whole function has to come
abbrev pub start : State
start = state (goal.Front ∷ []) (record { variables = []; known = [] }) []
