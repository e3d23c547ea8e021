-- The points of a program without their numbers.
use Rattle.std.specs.Prelude.{ℕ, List, [], ◌∷◌, ◌++◌, if◌then◌else◌}
use Rattle.lang_tree.specs.Tree.{Statement, Statements, set, havoc, assume, only_where, check, branch, loop, jump, label, nil, cons}
use Rattle.lang_tree.specs.PointNumbers.{splits}
use Rattle.flow_edges.specs.declared.point.Place.{Place}
use Rattle.flow_edges.specs.declared.point.Place.TheVariants.{Loop, Label, Join, Assume}
use Rattle.flow_edges.specs.declared.point.Point.{Point}

-- a point of this place and line alone
abbrev pub one_point : Place → ℕ → List Point
one_point place line = record { place = place; line = line } ∷ []

abbrev mutual
  -- the points that a node and the nodes in it make, in order
  pub places_of : Statement → List Point
  places_of (set var form line) = []
  places_of (havoc var line) = []
  places_of (assume c line) = if splits c then one_point Assume line else []
  places_of (only_where c line) = []
  places_of (check about c line) = []
  places_of (branch c first second line) = places_in first ++ (places_in second ++ one_point Join line)
  places_of (loop kind c body line) = one_point Loop line ++ places_in body
  places_of (jump kind line) = []
  places_of (label name line) = one_point (Label name) line

  -- the same for a list of nodes
  pub places_in : Statements → List Point
  places_in nil = []
  places_in (cons s rest) = places_of s ++ places_in rest
