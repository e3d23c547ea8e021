-- What the groups of an expression see of it: its variables, and how its comparisons enclose them.
use Rattle.std.specs.Prelude.{◌≡◌, ◌≤◌, ◌++◌, ℕ, List, [], ◌∷◌}
use Rattle.lang_groups.specs.declared.mark.Mark.{Mark}
use Rattle.lang_groups.specs.declared.mark.Mark.TheVariants.{Variable, Opens, Closes, Compares, Parts}

-- an expression by its variables
pub data Shape : Type 0 where
  -- no variable, as a number
  nothing : Shape
  -- a variable
  one : ℕ → Shape
  -- what stands in a pair of brackets of any kind
  enclosed : Shape → Shape
  -- what stands side by side, or on both sides of a sign that holds tighter than a comparison, as in a sum
  tied : Shape → Shape → Shape
  -- two sides that are compared
  compared : Shape → Shape → Shape
  -- what stands on both sides of a sign that holds looser than a comparison: `,`, `&&`, `||`, `?`, `:` or `=`
  apart : Shape → Shape → Shape

-- the variables that occur, at any depth
abbrev pub occurring : Shape → List ℕ
occurring nothing = []
occurring (one x) = x ∷ []
occurring (enclosed s) = occurring s
occurring (tied s t) = occurring s ++ occurring t
occurring (compared s t) = occurring s ++ occurring t
occurring (apart s t) = occurring s ++ occurring t

-- the groups: for each comparison the variables that occur in it
abbrev pub groups_of : Shape → List (List ℕ)
groups_of nothing = []
groups_of (one x) = []
groups_of (enclosed s) = groups_of s
groups_of (tied s t) = groups_of s ++ groups_of t
groups_of (compared s t) = occurring (compared s t) ∷ groups_of s ++ groups_of t
groups_of (apart s t) = groups_of s ++ groups_of t

-- The shape is one that the grammar's rules on grouping allow: outside of brackets no sign holds looser than the level says. The level 0
-- allows each sign, 1 comparisons and what holds tighter, 2 what holds tighter alone.
abbrev pub Fits : (level : ℕ) → Shape → Type 0
Fits l nothing = Unit {0}
Fits l (one x) = Unit {0}
Fits l (enclosed s) = Fits 0 s
Fits l (tied s t) = Fits 2 s × Fits 2 t
Fits l (compared s t) = (l ≤ 1) × Fits 1 s × Fits 1 t
Fits l (apart s t) = (l ≡ 0) × Fits 0 s × Fits 0 t

-- its tokens, as far as they are something to the groups
abbrev pub marks_of : Shape → List Mark
marks_of nothing = []
marks_of (one x) = Variable x ∷ []
marks_of (enclosed s) = Opens ∷ (marks_of s ++ Closes ∷ [])
marks_of (tied s t) = marks_of s ++ marks_of t
marks_of (compared s t) = marks_of s ++ Compares ∷ marks_of t
marks_of (apart s t) = marks_of s ++ Parts ∷ marks_of t
