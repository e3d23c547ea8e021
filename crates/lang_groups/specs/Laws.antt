-- The laws of groups.
use Rattle.std.specs.Prelude.{◌≡◌, ◌++◌, ◌∷◌, ℕ, List}
use Rattle.lang_groups.specs.Groups.{SameTogether}
use Rattle.lang_groups.specs.Shapes.{Shape, Fits, occurring, groups_of, marks_of}
use Rattle.lang_groups.specs.Machine.{State, at_rest, taken_all, ended, ended_together}

-- Some groups, by which the same variables are together as by these, are put behind the others, and nothing has begun.
pub record Adds (gs : List (List ℕ)) (wanted : List (List ℕ)) (behind : State) : Type 0 where
  pub more : List (List ℕ)
  pub kept : behind ≡ at_rest (gs ++ more)
  pub same : SameTogether more wanted

-- The tokens of an expression give the groups of its comparisons.
abbrev pub MarksGiveGroups : Type 0
MarksGiveGroups = (s : Shape) → Fits 0 s → (gs : List (List ℕ)) → Adds gs (groups_of s) (ended (taken_all (marks_of s) (at_rest gs)))

-- Where it ends with all of its variables together, they are one group more.
abbrev pub MarksGiveOneMore : Type 0
MarksGiveOneMore = (s : Shape) → Fits 0 s → (gs : List (List ℕ))
    → Adds gs (occurring s ∷ groups_of s) (ended_together (taken_all (marks_of s) (at_rest gs)))
