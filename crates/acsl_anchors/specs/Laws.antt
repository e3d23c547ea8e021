-- What anchors are to the points of a function's core, to its text and to its names.
use Rattle.std.specs.Prelude.{◌≡◌, ◌<◌, ◌++◌, ℕ, Bool, true, false, List, [], ◌∷◌, Ok, Option, Some, None, if◌then◌else◌, length, map}
use Rattle.std.specs.Prelude.{reverse}
use Rattle.std.specs.Prelude.{slice_range}
use Rattle.std.specs.List.{All}
use Rattle.lang_tokens.specs.Reading as lex
use Rattle.lang_tokens.specs.declared.lexicon.Lexicon.TheVariants.{C}
use Rattle.lang_tokens.specs.declared.token.Token as lex_token
use Rattle.flow_edges.specs.Points.{points_of_program}
use Rattle.flow_edges.specs.declared.point.Place.{Place}
use Rattle.flow_edges.specs.declared.point.Place.TheVariants.{Entry, Loop, Label, Join, Assume, Exit}
use Rattle.flow_edges.specs.declared.point.Point.{Point}
use Rattle.source_grammar.specs.Grammar.{ForFirst, Items, Parameters, Function, Reads}
use Rattle.source_tokens.specs.View.{tokens_of}
use Rattle.source_tokens.specs.declared.definition.Definition.{Definition}
use Rattle.source_constants.specs.Directives.{code_of}
use Rattle.source_tree.specs.Statements.{Statements}
use Rattle.source_core.specs.Core.{core_in}
use Rattle.source_meaning.specs.Names.{Named, Thing, State, variable, array, constant, declared, start_state}
use Rattle.source_meaning.specs.Statements.{read_first, read_items}
use Rattle.source_meaning.specs.Walk.{read_parameters, walk}
use Rattle.acsl_comments.specs.Places.{Ascend, IsEdge, IsBehindNoSlash}
use Rattle.acsl_anchors.specs.Anchors.{Anchor, Scope, What, a_loop, a_label, anchors_of, scope_first, scope_items, scope_parameters}
use Rattle.acsl_anchors.specs.Anchors.{the_end, number_among}
use Rattle.base_integers.specs.declared.integers.Integers.{Integers}

-- the point of an anchor, where each place has this line
abbrev pub what_point : (ℕ → ℕ) → What → ℕ → Point
what_point line a_loop first = record { place = Loop; line = line first }
what_point line (a_label name) first = record { place = Label name; line = line first }
what_point line the_end first = record { place = Exit; line = 0 }

-- the point of an anchor
abbrev pub point_of : (ℕ → ℕ) → Anchor → Point
point_of line anchor = what_point line anchor.what anchor.first

-- the heads of loops, labels and the exit have anchors
abbrev pub is_anchored : Place → Bool
is_anchored Entry = false
is_anchored Loop = true
is_anchored (Label name) = true
is_anchored Join = false
is_anchored Assume = false
is_anchored Exit = true

-- the points of a list that have anchors, in order
abbrev pub anchored : List Point → List Point
anchored [] = []
anchored (point ∷ points) = if is_anchored point.place then point ∷ anchored points else anchored points

-- The anchors of a function are the points of its core that have one, in their order, each with what it is, its line and its name.
abbrev pub AnchorsArePoints : Type 0
AnchorsArePoints = (integers : Integers) (line : ℕ → ℕ) (f : Function) (names : List (List ℕ)) (body : Statements)
    → walk integers line f ≡ Ok (names, body)
    → map (point_of line) (anchors_of f) ≡ anchored (points_of_program (core_in integers (length names) body))

-- they stand in the text in order, each where a token of no directive begins or ends, and none right behind a `/`
pub record AnchorsStandIn (text : List ℕ) (tokens : List lex_token.Token) (anchors : List Anchor) : Type 0 where
  pub order : Ascend 0 (length text) (map (λ a. a.place) anchors)
  pub edges : All (λ a. IsEdge tokens a.place) anchors
  pub apart : All (λ a. IsBehindNoSlash tokens a.place) anchors

-- The anchors of a function stand in its text: its tokens are some of those of the text that stand in no directive, in which `front` are
-- all but the end.
abbrev pub AnchorsStand : Type 0
AnchorsStand = (constants : List Definition) (text : List ℕ) (tokens front : List lex_token.Token) (first end : ℕ) (f : Function)
    → lex.Reads C text tokens → front ++ lex.end_at (length text) ∷ [] ≡ tokens
    → Reads (tokens_of constants text (slice_range (code_of front) first end)) f → AnchorsStandIn text tokens (anchors_of f)

-- the number of a variable, if a name is one
abbrev pub number_of : Thing → List ℕ
number_of (variable i) = i ∷ []
number_of (array extents) = []
number_of (constant v) = []

-- the numbers of the variables that are known, in order of declaration
abbrev pub known_in : List Named → List ℕ
known_in [] = []
known_in (n ∷ ns) = known_in ns ++ (if n.is_known then number_of n.thing else [])

-- the scope of what has been met
abbrev pub scope_of : State → Scope
scope_of state = record { variables = reverse state.variables; known = known_in state.names }

-- where a name was declared as this thing, a variable is the one of these that has the name
abbrev pub IsNumberedAs : List ℕ → (variables : List (List ℕ)) → Thing → Type 0
IsNumberedAs x variables (variable i) = (number_among x variables ≡ i) × (i < length variables)
IsNumberedAs x variables (array extents) = Unit {0}
IsNumberedAs x variables (constant v) = Unit {0}

-- where it was declared so, or not at all: then none of them has it
abbrev pub IsNumberedBy : List ℕ → (variables : List (List ℕ)) → Option Named → Type 0
IsNumberedBy x variables None = number_among x variables ≡ length variables
IsNumberedBy x variables (Some n) = IsNumberedAs x variables n.thing

-- what has been met gives each variable the number of its name
abbrev pub IsNumbered : State → Type 0
IsNumbered state = (x : List ℕ) → IsNumberedBy x (reverse state.variables) (declared x state.names)

-- a scope is that of what has been met, which gives each variable the number of its name
pub record IsMet (scope : Scope) (state : State) : Type 0 where
  pub same : scope ≡ scope_of state
  pub numbered : IsNumbered state

-- What is known behind statements is what the language's rule on names says there.
abbrev pub ScopesAreWalked : Type 0
ScopesAreWalked = (integers : Integers) (line : ℕ → ℕ) (n : ℕ) (inside : Bool) (items : Items) (before behind : State) (body : Statements)
    → IsNumbered before → read_items integers line n inside before items ≡ Ok (behind, body)
    → IsMet (scope_items items (scope_of before)) behind

-- So is what is known behind the first part of a `for`'s head, where the invariants of its loop are said.
abbrev pub HeadsAreWalked : Type 0
HeadsAreWalked = (integers : Integers) (line : ℕ → ℕ) (n : ℕ) (first : ForFirst) (before behind : State) (body : Statements)
    → IsNumbered before → read_first integers line n before first ≡ Ok (behind, body)
    → IsMet (scope_first first (scope_of before)) behind

-- So is what is known behind the parameters, before the statements of the body.
abbrev pub ParametersAreWalked : Type 0
ParametersAreWalked = (integers : Integers) (line : ℕ → ℕ) (parameters : Parameters) (before behind : State) (body : Statements)
    → IsNumbered before → read_parameters integers line before parameters ≡ Ok (behind, body)
    → IsMet (scope_parameters parameters (scope_of before)) behind

-- Where nothing has been met each variable has the number of its name.
abbrev pub NothingIsNumbered : Type 0
NothingIsNumbered = IsNumbered start_state
