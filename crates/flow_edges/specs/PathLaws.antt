-- What joins points, labelled steps, paths and edges.
use Rattle.std.specs.Prelude.{◌≡◌, ◌↔◌, ℕ, ◌<◌, List, ◌∷◌, length, map, flat_map, slice_get, Some, Contains}
use Rattle.std.specs.List.{range_with_len}
use Rattle.base_facts.specs.Elements.{In}
use Rattle.lang_tree.specs.Tree.{Statements}
use Rattle.lang_tree.specs.PointNumbers.{points_in, exit_of, point_count}
use Rattle.lang_tree.specs.Meaning.{State}
use Rattle.lang_tree.specs.Runs.{Item, node, mark, turn, end, Does, start_work}
use Rattle.flow_edges.specs.declared.edge.Action.{Action}
use Rattle.flow_edges.specs.declared.edge.Edge.{Edge}
use Rattle.flow_edges.specs.Points.{made_in, points_of_program}
use Rattle.flow_edges.specs.Steps.{Labelled, steps_of, Acts}
use Rattle.flow_edges.specs.Paths.{Leads, Path}
use Rattle.flow_edges.specs.Edges.{prefixed, ways_from, behind_points, edges_of_program}

-- the nodes of a program make the points 1, 2, 3 and so on, each once, in the order of the list of points
pub record IsNumbered (body : Statements) : Type 0 where
  pub numbers : map (λ m. m.number) (made_in body 1) ≡ range_with_len 1 (points_in body)
  pub count : length (points_of_program body) ≡ point_count body

-- of every program
abbrev pub PointsAreNumbered : Type 0
PointsAreNumbered = (body : Statements) → IsNumbered body

-- labelled steps come to the mark of a point exactly where the list has work after it, and leave that work alone after it
abbrev pub BehindPoints : Type 0
BehindPoints = (body : Statements) (p : ℕ) (rest : List Item) →
    (slice_get (behind_points body) p ≡ Some (Some rest)) ↔ ((actions : List Action) × Leads (exit_of body) (start_work body) actions
    (mark p ∷ rest))

-- the item is the mark of a point
abbrev pub IsMark : Item → Type 0
IsMark (mark p) = Unit {0}
IsMark (node s n) = ⊥
IsMark (turn kind c body line n) = ⊥
IsMark (end kind c body line n) = ⊥

-- a step of a run with an item that is no mark does what one of its labelled steps records, and each labelled step that can be taken is
-- such a step
abbrev pub StepsAreRecorded : Type 0
StepsAreRecorded =
    (exit : ℕ) (item : Item) (rest : List Item) (x : State) (work : List Item) (y : State) → ¬ (IsMark item) →
    Does exit item rest x work y ↔ ((s : Labelled) × In (steps_of exit item rest) s × (s.work ≡ work) × Acts s.actions x y)

-- an item that is no mark leads on by its labelled steps, in their order, and by nothing else
abbrev pub WaysAreSteps : Type 0
WaysAreSteps =
    (exit : ℕ) (item : Item) (rest : List Item) → ¬ (IsMark item) →
    ways_from exit (item ∷ rest) ≡ flat_map (λ s. prefixed s.actions (ways_from exit s.work)) (steps_of exit item rest)

-- these edges are exactly the paths of a program
pub record EdgesArePaths (edges : List Edge) (body : Statements) : Type 0 where
  pub complete : (from to : ℕ) (actions : List Action) → Path body from actions to
      → Contains edges (record { from = from; to = to; actions = actions })
  pub sound : (edge : Edge) → Contains edges edge → Path body edge.from edge.actions edge.to

-- the edges of every program
abbrev pub EdgesOfPrograms : Type 0
EdgesOfPrograms = (body : Statements) → EdgesArePaths (edges_of_program body) body

-- an edge goes from a point to a point other than the entry
pub record IsInRange (points : ℕ) (edge : Edge) : Type 0 where
  pub from : edge.from < points
  pub to : edge.to < points
  pub later : 0 < edge.to

-- every edge of every program
abbrev pub EdgesInRange : Type 0
EdgesInRange = (body : Statements) (edge : Edge) → Contains (edges_of_program body) edge → IsInRange (point_count body) edge
