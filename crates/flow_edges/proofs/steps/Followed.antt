-- A plain program that finds points and edges by following labelled steps from the start. It sees a program as work alone, and stops
-- after a number of steps.
use Rattle.std.specs.Prelude.{ℕ, zero, suc, ◌==◌, List, [], ◌∷◌, ◌++◌, map, flat_map, if◌then◌else◌}
use Rattle.std.specs.List.{list_any}
use Rattle.lang_tree.specs.Tree.{Statements}
use Rattle.lang_tree.specs.PointNumbers.{exit_of}
use Rattle.lang_tree.specs.Runs.{Item, node, mark, turn, end, start_work}
use Rattle.flow_edges.specs.declared.edge.Action.{Action}
use Rattle.flow_edges.specs.declared.edge.Edge.{Edge}
use Rattle.flow_edges.specs.Steps.{steps_of}

-- an arrival at a point: what was done, the point's number, and the work after its mark
pub record Arrival : Type 0 where
  -- what was done
  pub actions : List Action
  -- the point's number
  pub to : ℕ
  -- the work after its mark
  pub behind : List Item

abbrev pub done_before : List Action → Arrival → Arrival
done_before actions a = record a { actions = actions ++ a.actions }

-- all arrivals at the next mark, each within this number of steps
abbrev pub arrivals : (exit : ℕ) → ℕ → List Item → List Arrival
arrivals exit zero work = []
arrivals exit (suc steps) [] = []
arrivals exit (suc steps) (mark p ∷ rest) = record { actions = []; to = p; behind = rest } ∷ []
arrivals exit (suc steps) (node s n ∷ rest) = flat_map (λ l. map (done_before l.actions) (arrivals exit steps l.work))
    (steps_of exit (node s n) rest)
arrivals exit (suc steps) (turn k c body line n ∷ rest) = flat_map (λ l. map (done_before l.actions) (arrivals exit steps l.work))
    (steps_of exit (turn k c body line n) rest)
arrivals exit (suc steps) (end k c body line n ∷ rest) = flat_map (λ l. map (done_before l.actions) (arrivals exit steps l.work))
    (steps_of exit (end k c body line n) rest)

-- the arrivals at points, each point explored once, as they are found
abbrev pub explored : (exit : ℕ) → ℕ → List Arrival → List ℕ → List Edge
explored exit zero found seen = []
explored exit (suc steps) [] seen = []
explored exit (suc steps) (a ∷ found) seen =
    if list_any (λ p. p == a.to) seen then explored exit steps found seen else
    (let next = arrivals exit steps a.behind in
    map (λ b. record { from = a.to; to = b.to; actions = b.actions }) next ++ explored exit steps (found ++ next) (a.to ∷ seen))

-- the edges that following finds
abbrev pub followed_edges : ℕ → Statements → List Edge
followed_edges steps body = explored (exit_of body) steps (arrivals (exit_of body) steps (start_work body)) []
