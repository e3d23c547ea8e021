-- The groups of a transition system: which of its variables stand together.
use Rattle.std.specs.Prelude.{◌++◌, ℕ, List, [], ◌∷◌, Option, Some, None}
use Rattle.lang_tokens.specs.declared.lexicon.Lexicon.TheVariants.{Own}
use Rattle.lang_tokens.specs.declared.token.Token.{Token}
use Rattle.lang_tokens.specs.Reading.{Reads}
use Rattle.lang_grammar.specs.Grammar.{Op, or_op, and_op, compare_op, plus_op, minus_op, times_op}
use Rattle.lang_grammar.specs.Grammar.{Expr, number, variable, free, grouped, prefixed, joined}
use Rattle.lang_meaning.specs.Names.{place_of}
use Rattle.lang_groups.specs.Groups.{SameTogether}
use Rattle.lang_groups.specs.Shapes.{Shape, nothing, one, enclosed, tied, compared, apart, occurring, groups_of}
use Rattle.flow_transitions.specs.AutoGrammar.{Act, sets, assumes, Written, System, ReadsSystem, tokens_here}
use Rattle.flow_transitions.specs.AutoTrees.{Outer, names_in}

-- a name, by its number among the variables
abbrev pub at_place : Option ℕ → Shape
at_place (Some x) = one x
at_place None = nothing

-- two sides of a sign
abbrev pub joined_by : Op → Shape → Shape → Shape
joined_by or_op s t = apart s t
joined_by and_op s t = apart s t
joined_by (compare_op r) s t = compared s t
joined_by plus_op s t = tied s t
joined_by minus_op s t = tied s t
joined_by times_op s t = tied s t

-- what the groups over these variables see of an expression
abbrev pub shape_of : List (List ℕ) → Expr → Shape
shape_of names (number n a) = nothing
shape_of names (variable x a) = at_place (place_of x names)
shape_of names (free a b c) = enclosed nothing
shape_of names (grouped a e b) = enclosed (shape_of names e)
shape_of names (prefixed p a e) = shape_of names e
shape_of names (joined e o a f) = joined_by o (shape_of names e) (shape_of names f)

-- what they see of an assignment: its variable and its right side
abbrev pub assigned_shape : List (List ℕ) → List ℕ → Expr → Shape
assigned_shape names x e = apart (at_place (place_of x names)) (shape_of names e)

-- the groups of an act: for each comparison the variables that occur in it, and for an assignment all of its variables
abbrev pub groups_in : List (List ℕ) → Act → List (List ℕ)
groups_in names (sets x a b e c) = occurring (assigned_shape names x e) ∷ groups_of (assigned_shape names x e)
groups_in names (assumes a b e c d) = groups_of (shape_of names e)

-- the groups of acts, and of edges
abbrev pub groups_in_acts : List (List ℕ) → List Act → List (List ℕ)
groups_in_acts names [] = []
groups_in_acts names (a ∷ hs) = groups_in names a ++ groups_in_acts names hs

abbrev pub groups_in_edges : List (List ℕ) → List Written → List (List ℕ)
groups_in_edges names [] = []
groups_in_edges names (w ∷ ws) = groups_in_acts names w.acts ++ groups_in_edges names ws

-- The text reads as a transition system without fault, by whose groups the same variables are together as by these.
pub record HasGroups (text : List ℕ) (groups : List (List ℕ)) : Type 0 where
  pub tokens : List Token
  pub reads : Reads Own text tokens
  pub system : System
  pub spelled : ReadsSystem (tokens_here text tokens) system
  pub outer : Outer text system.heads system.edges
  pub same : SameTogether groups (groups_in_edges (names_in system.heads.variables) system.edges)
