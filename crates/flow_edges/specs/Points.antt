-- The points of a program in order, with their places and lines.
use Rattle.std.specs.Prelude.{ℕ, ◌+◌, List, [], ◌∷◌, ◌++◌, map, if◌then◌else◌}
use Rattle.lang_tree.specs.Tree.{Statement, Statements, set, havoc, assume, only_where, check, branch, loop, jump, label, nil, cons}
use Rattle.lang_tree.specs.PointNumbers.{splits, points_of, points_in, join_of}
use Rattle.flow_edges.specs.declared.point.Place.{Place}
use Rattle.flow_edges.specs.declared.point.Place.TheVariants.{Entry, Loop, Label, Join, Assume, Exit}
use Rattle.flow_edges.specs.declared.point.Point.{Point}

-- a point that a node makes, with the number that the node gives it
pub record Made : Type 0 where
  pub number : ℕ
  pub point : Point

-- a point of this place and line
abbrev pub made : ℕ → Place → ℕ → Made
made number place line = record { number = number; point = record { place = place; line = line } }

abbrev mutual
  -- what a node and the nodes in it make: a loop's head before the points of its body, an `if`'s join after those of both branches
  pub made_by : Statement → ℕ → List Made
  made_by (set var form line) n = []
  made_by (havoc var line) n = []
  made_by (assume c line) n = if splits c then made n Assume line ∷ [] else []
  made_by (only_where c line) n = []
  made_by (check about c line) n = []
  made_by (branch c first second line) n = made_in first n ++ (made_in second (n + points_in first)
      ++ made (join_of first second n) Join line ∷ [])
  made_by (loop kind c body line) n = made n Loop line ∷ made_in body (n + 1)
  made_by (jump kind line) n = []
  made_by (label name line) n = made n (Label name) line ∷ []

  -- what the nodes of a list make, one after another
  pub made_in : Statements → ℕ → List Made
  made_in nil n = []
  made_in (cons s rest) n = made_by s n ++ made_in rest (n + points_of s)

-- the points of a program: the entry, those that its nodes make, the exit
abbrev pub points_of_program : Statements → List Point
points_of_program body =
    record { place = Entry; line = 0 } ∷ (map (λ m. m.point) (made_in body 1) ++ record { place = Exit; line = 0 } ∷ [])
