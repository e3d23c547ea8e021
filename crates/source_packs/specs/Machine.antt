-- A machine that finds the groups of a function, token by token: a stack of what has still to come, and a book of what has been found.
use Rattle.std.specs.Prelude.{◌++◌, ◌+◌, ℕ, Bool, true, false, List, [], ◌∷◌, length, take, drop, if◌then◌else◌}
use Rattle.source_grammar.specs.Tokens.{Token, token}
use Rattle.lang_groups.specs.Machine as lang
use Rattle.lang_groups.specs.declared.mark.Mark.TheVariants as mark
use Rattle.source_packs.specs.Parts.{part_of}
use Rattle.source_packs.specs.declared.part.Part.{Part}
use Rattle.source_packs.specs.declared.part.Part.TheVariants as part
use Rattle.source_packs.specs.declared.goal.Place.{Place}
use Rattle.source_packs.specs.declared.goal.Place.TheVariants as place
use Rattle.source_packs.specs.declared.goal.Stop.{Stop}
use Rattle.source_packs.specs.declared.goal.Stop.TheVariants as stop
use Rattle.source_packs.specs.declared.goal.Goal.{Goal}
use Rattle.source_packs.specs.declared.goal.Goal.TheVariants as goal
use Rattle.source_packs.specs.declared.goal.Effect.{Effect}
use Rattle.source_packs.specs.declared.goal.Effect.TheVariants as effect
use Rattle.source_packs.specs.declared.goal.Next.{Next}
use Rattle.source_packs.specs.declared.goal.Next.TheVariants as next
use Rattle.source_packs.specs.declared.goal.Entry.{Entry}
use Rattle.source_packs.specs.declared.goal.Entry.TheVariants as enters

-- what is taken
abbrev pub taken : Effect → Next → Entry
taken e n = enters.Takes e n place.Sub

-- a token is the end
abbrev pub stops : Stop → Part → Bool
stops stop.Semicolon part.Semicolon = true
stops stop.Paren part.RightParen = true
stops s k = false

-- a token of an expression, of which the rest has still to come
abbrev pub inner_entry : Goal → Part → Entry
inner_entry g (part.Variable i) = taken effect.Nothing (next.Two (goal.Named i) g)
inner_entry g part.Step = taken effect.Nothing (next.Two goal.Stepped g)
inner_entry g part.LeftParen = taken (effect.Takes mark.Opens) (next.Two goal.Nested g)
inner_entry g part.LeftBrace = taken (effect.Takes mark.Opens) (next.Two goal.Nested g)
inner_entry g part.LeftBracket = taken (effect.Takes mark.Opens) (next.Two goal.Nested g)
inner_entry g part.Compare = taken (effect.Takes mark.Compares) (next.One g)
inner_entry g part.Separator = taken (effect.Takes mark.Parts) (next.One g)
inner_entry g part.Colon = taken (effect.Takes mark.Parts) (next.One g)
inner_entry g _ = taken effect.Nothing (next.One g)

-- up to the bracket that closes
abbrev pub nested_entry : Part → Entry
nested_entry part.RightParen = taken (effect.Takes mark.Closes) next.Zero
nested_entry part.RightBrace = taken (effect.Takes mark.Closes) next.Zero
nested_entry part.RightBracket = taken (effect.Takes mark.Closes) next.Zero
nested_entry part.Comma = taken (effect.Takes mark.Parts) (next.One goal.Nested)
nested_entry k = inner_entry goal.Nested k

-- the rest of an expression
abbrev pub rest_entry : Stop → Part → Entry
rest_entry s k = if stops s k then taken effect.Ends next.Zero else inner_entry (goal.Rest s) k

-- the rest of a change that goes on: a comma may end it
abbrev pub right_on : Stop → Part → Entry
right_on s part.Comma = taken effect.EndsTogether (next.One (goal.Left s))
right_on s k = inner_entry (goal.Right s) k

-- the rest of a change
abbrev pub right_entry : Stop → Part → Entry
right_entry s k = if stops s k then taken effect.EndsTogether next.Zero else right_on s k

-- a change up to its sign that goes on
abbrev pub left_on : Stop → Part → Entry
left_on s part.Comma = taken effect.Ends (next.One (goal.Left s))
left_on s part.Change = taken (effect.Takes mark.Parts) (next.One (goal.Right s))
left_on s part.Step = taken effect.Nothing (next.Two goal.Stepped (goal.Right s))
left_on s k = inner_entry (goal.Left s) k

-- a change up to its sign; a declarator or a call may end without one
abbrev pub left_entry : Stop → Part → Entry
left_entry s k = if stops s k then taken effect.Ends next.Zero else left_on s k

-- what a label leaves to come
abbrev pub label_next : Place → Next
label_next place.Sub = next.One (goal.Statement place.Sub)
label_next place.Block = next.Zero

-- behind a name that a statement begins with: a label, a call or a change
abbrev pub begun_entry : Place → Part → Entry
begun_entry p part.Colon = taken effect.Nothing (label_next p)
begun_entry p k = left_entry stop.Semicolon k

-- behind a variable's name: an array and what is called are none, and what is changed is a target
abbrev pub named_entry : ℕ → Part → Entry
named_entry i part.LeftParen = enters.Leaves effect.Nothing
named_entry i part.LeftBracket = enters.Leaves effect.Nothing
named_entry i part.Change = enters.Leaves (effect.Target i)
named_entry i part.Step = enters.Leaves (effect.Target i)
named_entry i _ = enters.Leaves (effect.Variable i)

-- the same where a statement begins with it: it may be a label
abbrev pub fresh_entry : ℕ → Part → Entry
fresh_entry i part.Colon = enters.Leaves effect.Nothing
fresh_entry i k = named_entry i k

-- behind `++` or `--`
abbrev pub stepped_entry : Part → Entry
stepped_entry (part.Variable i) = taken effect.Nothing (next.One (goal.SteppedName i))
stepped_entry _ = enters.Leaves effect.Nothing

-- behind the name there
abbrev pub stepped_name_entry : ℕ → Part → Entry
stepped_name_entry i part.LeftBracket = enters.Leaves effect.Nothing
stepped_name_entry i _ = enters.Leaves (effect.Target i)

-- what a statement's first token leaves to come
abbrev pub statement_entry : Place → Part → Entry
statement_entry p (part.Variable i) = enters.Takes effect.Nothing (next.Two (goal.Fresh i) (goal.Begun p)) p
statement_entry p part.Name = enters.Takes effect.Nothing (next.One (goal.Begun p)) p
statement_entry p part.Step = enters.Takes effect.Nothing (next.Two goal.Stepped (goal.Right stop.Semicolon)) p
statement_entry p part.Semicolon = enters.Takes effect.Nothing next.Zero p
statement_entry p part.LeftBrace = enters.Takes effect.Nothing (next.One (goal.Statement place.Block)) p
statement_entry p part.RightBrace = taken effect.Nothing next.Zero
statement_entry p part.Declares = enters.Takes effect.Nothing (next.One (goal.Left stop.Semicolon)) p
statement_entry p part.If = enters.Takes effect.Nothing next.If p
statement_entry p part.While = enters.Takes effect.Tests next.While p
statement_entry p part.Do = enters.Takes effect.Repeats next.Do p
statement_entry p part.For = enters.Takes effect.Nothing next.For p
statement_entry p _ = enters.Takes effect.Nothing (next.One (goal.Rest stop.Semicolon)) p

-- where an `else` may follow
abbrev pub else_entry : Part → Entry
else_entry part.Else = taken effect.Nothing (next.One (goal.Statement place.Sub))
else_entry _ = enters.Leaves effect.Nothing

-- up to the parenthesis of the parameters
abbrev pub front_entry : Part → Entry
front_entry part.LeftParen = taken effect.Nothing (next.One goal.Parameters)
front_entry _ = taken effect.Nothing (next.One goal.Front)

-- up to the brace of the body
abbrev pub parameters_entry : Part → Entry
parameters_entry part.LeftBrace = taken effect.Nothing (next.One (goal.Statement place.Block))
parameters_entry _ = taken effect.Nothing (next.One goal.Parameters)

-- what a goal makes of a token
abbrev pub entry : Goal → Part → Entry
entry goal.Front k = front_entry k
entry goal.Parameters k = parameters_entry k
entry (goal.Statement p) k = statement_entry p k
entry goal.MaybeElse k = else_entry k
entry (goal.Begun p) k = begun_entry p k
entry (goal.Rest s) k = rest_entry s k
entry (goal.Left s) k = left_entry s k
entry (goal.Right s) k = right_entry s k
entry goal.Nested k = nested_entry k
entry (goal.Named i) k = named_entry i k
entry (goal.Fresh i) k = fresh_entry i k
entry goal.Stepped k = stepped_entry k
entry (goal.SteppedName i) k = stepped_name_entry i k
entry goal.Open k = taken effect.Nothing next.Zero
entry goal.LoopBegins k = enters.Leaves effect.Tests
entry goal.LoopEnds k = enters.Leaves effect.LoopEnds
entry goal.Tail k = taken effect.TestsBehind (next.Two (goal.Rest stop.Semicolon) goal.LoopEnds)

-- the further statements of a place
abbrev pub after : Place → List Goal → List Goal
after place.Sub gs = gs
after place.Block gs = goal.Statement place.Block ∷ gs

-- what has to come, before the rest
abbrev pub before : Next → List Goal → List Goal
before next.Zero gs = gs
before (next.One g) gs = g ∷ gs
before (next.Two g h) gs = g ∷ h ∷ gs
before next.If gs = goal.Open ∷ goal.Rest stop.Paren ∷ goal.Statement place.Sub ∷ goal.MaybeElse ∷ gs
before next.While gs = goal.Open ∷ goal.Rest stop.Paren ∷ goal.Statement place.Sub ∷ goal.LoopEnds ∷ gs
before next.Do gs = goal.Statement place.Sub ∷ goal.Tail ∷ gs
before next.For gs = goal.Open ∷ goal.Left stop.Semicolon ∷ goal.LoopBegins ∷ goal.Rest stop.Semicolon ∷ goal.Left stop.Paren
    ∷ goal.Statement place.Sub ∷ goal.LoopEnds ∷ gs

-- what has been found: the groups, the variables of the open loops in the order of the text, how many there were before each of the loops,
-- the innermost first, and whether a condition of a loop is being read
pub record Book : Type 0 where
  pub collector : lang.State
  pub members : List ℕ
  pub starts : List ℕ
  pub testing : Bool

-- a book, by its parts
abbrev pub book : lang.State → List ℕ → List ℕ → Bool → Book
book c ms starts testing = record { collector = c; members = ms; starts = starts; testing = testing }

-- a loop's variables are a group
abbrev pub loop_ended : lang.State → (members starts : List ℕ) → Book
loop_ended c ms [] = book c ms [] false
loop_ended c ms (n ∷ starts) = book (lang.with_added (drop n ms) c) (take n ms) starts false

-- what a token tells is written into the book
abbrev pub told : Effect → Book → Book
told effect.Nothing b = b
told (effect.Takes m) b = record b { collector = lang.taken m b.collector }
told (effect.Variable i) b = record b {
  collector = lang.taken (mark.Variable i) b.collector;
  members = if b.testing then b.members ++ i ∷ [] else b.members;
}
told (effect.Target i) b = record b { collector = lang.taken (mark.Variable i) b.collector; members = b.members ++ i ∷ [] }
told effect.Ends b = record b { collector = lang.ended b.collector; testing = false }
told effect.EndsTogether b = record b { collector = lang.ended_together b.collector }
told effect.Tests b = record b { starts = length b.members ∷ b.starts; testing = true }
told effect.Repeats b = record b { starts = length b.members ∷ b.starts; testing = false }
told effect.TestsBehind b = record b { testing = true }
told effect.LoopEnds b = loop_ended b.collector b.members b.starts

-- what has still to come, and the book
pub record State : Type 0 where
  pub goals : List Goal
  pub written : Book

-- a state, by its parts
abbrev pub state : List Goal → Book → State
state gs b = record { goals = gs; written = b }

-- the state behind a token: the goals that want nothing are left, and the first that takes it says what comes
abbrev pub step : List Goal → Part → Book → State
step [] k b = state [] b
step (g ∷ gs) k b = elim (entry g k) [
  | enters.Takes e n p ↦ state (before n (after p gs)) (told e b)
  | enters.Leaves e ↦ step gs k (told e b)
]

-- the state behind tokens, of the variables with these names
abbrev pub run : (names : List (List ℕ)) → State → List Token → State
run names st [] = st
run names st (token k a ∷ ts) = run names (step st.goals (part_of names k) st.written) ts

-- nothing has been found
abbrev pub no_book : Book
no_book = book (lang.at_rest []) [] [] false

-- a whole function has to come
abbrev pub start : State
start = state (goal.Front ∷ []) no_book
