-- What the code's goals, entries and outcomes stand for.
use Rattle.std.specs.Prelude.{◌≡◌, ◌≤◌, ◌<◌, ◌++◌, ℕ, List, [], ◌∷◌, Option, Some, None, reverse, map}
use Rattle.source_grammar.specs.Tokens.{Kind}
use Rattle.source_grammar.specs.Machine.{Site, Mark, Goal, Entry, takes, skips, stops, entry}
use Rattle.source_grammar.specs.Verdicts.{opened_by, Verdict, goes, refused, too_deep}
use Rattle.source_grammar.specs.Faults.{Scan, whole, short, unexpected, nested}
use Rattle.source_grammar.specs.Machine as m
use Rattle.source_grammar.specs.declared.goal.Site as code_site
use Rattle.source_grammar.specs.declared.goal.Mark as code_mark
use Rattle.source_grammar.specs.declared.goal.Goal as code_goal
use Rattle.source_grammar.specs.declared.goal.Entry as code_entry
use Rattle.source_grammar.specs.declared.machine.Outcome as code_outcome
use Rattle.source_grammar.specs.declared.machine.Syntax as code_syntax

-- what the site of a statement stands for
abbrev pub site_of : code_site.Site → Site
site_of code_site.TheVariants.Sub = m.in_sub
site_of code_site.TheVariants.Block = m.in_block

-- what a mark of the code stands for
abbrev pub mark_of : code_mark.Mark → Mark
mark_of code_mark.TheVariants.LeftParen = m.opening
mark_of code_mark.TheVariants.RightParen = m.closing
mark_of code_mark.TheVariants.LeftBrace = m.brace_opening
mark_of code_mark.TheVariants.RightBrace = m.brace_closing
mark_of code_mark.TheVariants.RightBracket = m.bracket_closing
mark_of code_mark.TheVariants.Colon = m.colon_mark
mark_of code_mark.TheVariants.Semicolon = m.statement_end
mark_of code_mark.TheVariants.Int = m.int_type

-- what a goal of the code stands for
abbrev pub goal_of : code_goal.Goal → Goal
goal_of (code_goal.TheVariants.Operand d) = m.operand d
goal_of (code_goal.TheVariants.Named d) = m.named d
goal_of (code_goal.TheVariants.More d) = m.more d
goal_of (code_goal.TheVariants.MaybeExpr d) = m.maybe_expr d
goal_of (code_goal.TheVariants.MaybeArguments d) = m.maybe_arguments d
goal_of (code_goal.TheVariants.MoreArguments d) = m.more_arguments d
goal_of (code_goal.TheVariants.Indexing d) = m.indexing d
goal_of (code_goal.TheVariants.Effect d) = m.effect d
goal_of (code_goal.TheVariants.Changing d) = m.changing d
goal_of (code_goal.TheVariants.MoreChanges d) = m.more_changes d
goal_of (code_goal.TheVariants.MaybeChanges d) = m.maybe_changes d
goal_of (code_goal.TheVariants.Declaring d) = m.declaring d
goal_of (code_goal.TheVariants.Initialising d) = m.initialising d
goal_of (code_goal.TheVariants.MoreDeclarators d) = m.more_declarators d
goal_of (code_goal.TheVariants.Sizing d) = m.sizing d
goal_of (code_goal.TheVariants.Filling d) = m.filling d
goal_of (code_goal.TheVariants.MaybeValues d) = m.maybe_values d
goal_of (code_goal.TheVariants.MoreValues d) = m.more_values d
goal_of (code_goal.TheVariants.Statement p d) = m.statement (site_of p) d
goal_of (code_goal.TheVariants.AfterName p d) = m.after_name (site_of p) d
goal_of (code_goal.TheVariants.MaybeElse d) = m.maybe_else d
goal_of (code_goal.TheVariants.Condition d) = m.condition d
goal_of (code_goal.TheVariants.DoEnd d) = m.do_end d
goal_of (code_goal.TheVariants.Header d) = m.header d
goal_of (code_goal.TheVariants.HeaderFirst d) = m.header_first d
goal_of (code_goal.TheVariants.HeaderRest d) = m.header_rest d
goal_of code_goal.TheVariants.Specifiers = m.specifiers
goal_of code_goal.TheVariants.FunctionName = m.function_name
goal_of code_goal.TheVariants.Parameters = m.parameters
goal_of code_goal.TheVariants.MoreParameters = m.more_parameters
goal_of code_goal.TheVariants.SomeType = m.some_type
goal_of code_goal.TheVariants.ParameterName = m.parameter_name
goal_of code_goal.TheVariants.Bounding = m.bounding
goal_of code_goal.TheVariants.MoreSizes = m.more_sizes
goal_of code_goal.TheVariants.SomeName = m.some_name
goal_of code_goal.TheVariants.SomeSize = m.some_size
goal_of code_goal.TheVariants.MaybeSize = m.maybe_size
goal_of (code_goal.TheVariants.Only k) = m.only (mark_of k)

-- what an entry of the code stands for
abbrev pub entry_of : code_entry.Entry → Entry
entry_of code_entry.TheVariants.Nothing = takes []
entry_of (code_entry.TheVariants.One a) = takes (goal_of a ∷ [])
entry_of (code_entry.TheVariants.Two a b) = takes (goal_of a ∷ goal_of b ∷ [])
entry_of (code_entry.TheVariants.Three a b c) = takes (goal_of a ∷ goal_of b ∷ goal_of c ∷ [])
entry_of (code_entry.TheVariants.Four a b c d) = takes (goal_of a ∷ goal_of b ∷ goal_of c ∷ goal_of d ∷ [])
entry_of (code_entry.TheVariants.Five a b c d e) = takes (goal_of a ∷ goal_of b ∷ goal_of c ∷ goal_of d ∷ goal_of e ∷ [])
entry_of (code_entry.TheVariants.Six a b c d e f) =
    takes (goal_of a ∷ goal_of b ∷ goal_of c ∷ goal_of d ∷ goal_of e ∷ goal_of f ∷ [])
entry_of code_entry.TheVariants.Skips = skips
entry_of code_entry.TheVariants.Stops = stops
entry_of code_entry.TheVariants.Deep = stops

-- the token is taken
abbrev pub IsTaken : Entry → Type 0
IsTaken (takes next) = Unit {0}
IsTaken skips = ⊥
IsTaken stops = ⊥

-- a construct is opened at the limit or past it
abbrev pub IsDeep : Option ℕ → Type 0
IsDeep None = ⊥
IsDeep (Some d) = 64 ≤ d

-- no construct is opened, or one within the limit
abbrev pub IsShallow : Option ℕ → Type 0
IsShallow None = Unit {0}
IsShallow (Some d) = d < 64

-- The code's entry is the goal's, or the token would open one construct too many.
abbrev pub Enters : code_entry.Entry → Entry → Option ℕ → Type 0
Enters code_entry.TheVariants.Deep wanted depth = IsTaken wanted × IsDeep depth
Enters e wanted depth = (entry_of e ≡ wanted) × (IsTaken wanted → IsShallow depth)

-- the code's entry is that of the goal at the token
abbrev pub Entered : code_entry.Entry → Goal → Kind → Type 0
Entered e g k = Enters e (entry g k) (opened_by g k)

-- The stack's top is the list's last.
abbrev pub stack_of : List code_goal.Goal → List Goal
stack_of gs = map goal_of (reverse gs)

-- the stack that an entry leaves
abbrev pub added : Entry → List Goal → List Goal
added (takes next) gs = next ++ gs
added skips gs = gs
added stops gs = gs

-- the code's outcome is the verdict, and its stack the one after the token
abbrev pub Advances : code_outcome.Outcome → Verdict → List Goal → Type 0
Advances code_outcome.TheVariants.Went v now = v ≡ goes now
Advances code_outcome.TheVariants.Refused v now = v ≡ refused
Advances code_outcome.TheVariants.TooDeep v now = v ≡ too_deep

-- what the code says of tokens
abbrev pub scan_of : code_syntax.Syntax → Scan
scan_of code_syntax.TheVariants.Whole = whole
scan_of code_syntax.TheVariants.Short = short
scan_of (code_syntax.TheVariants.Unexpected at) = unexpected at
scan_of (code_syntax.TheVariants.Nested at) = nested at
