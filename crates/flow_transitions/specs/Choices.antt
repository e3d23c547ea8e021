-- The edges of a transition system: for each edge of the text one for each choice of cases along it.
use Rattle.std.specs.Prelude.{◌==◌, ◌++◌, ℕ, Bool, true, List, [], ◌∷◌, map, filter, flat_map}
use Rattle.std.specs.List.{range_with_len}
use Rattle.lang_tree.specs.Tree.{Statement, Statements, set, havoc, assume, only_where, check, branch, loop, jump, label, nil, cons}
use Rattle.lang_tree.specs.Cases.{cases_of}
use Rattle.flow_edges.specs.declared.edge.Action.{Action}
use Rattle.flow_edges.specs.declared.edge.Action.TheVariants.{Assign, Havoc}
use Rattle.flow_edges.specs.declared.edge.Edge.{Edge}
use Rattle.flow_edges.specs.Steps.{guards}
use Rattle.flow_transitions.specs.declared.auto_edge.AutoEdge.{AutoEdge}

-- what an act records: an assignment, a free one, or by choice the guards of a case in which the condition may be true
abbrev pub choices_of : Statement → List (List Action)
choices_of (set var form line) = (Assign var form ∷ []) ∷ []
choices_of (havoc var line) = (Havoc var ∷ []) ∷ []
choices_of (assume cond line) = map guards (cases_of true cond)
choices_of (only_where cond line) = []
choices_of (check about cond line) = []
choices_of (branch cond first second line) = []
choices_of (loop kind cond body line) = []
choices_of (jump kind line) = []
choices_of (label name line) = []

-- what acts record one after another, for each choice, that of the first act outermost
abbrev pub choices_in : Statements → List (List Action)
choices_in nil = [] ∷ []
choices_in (cons s rest) = flat_map (λ first. map (λ later. first ++ later) (choices_in rest)) (choices_of s)

-- the edge of the text by these actions
abbrev pub edge_by : AutoEdge → List Action → Edge
edge_by e actions = record { from = e.from; to = e.to; actions = actions }

-- the edges of an edge of the text
abbrev pub edges_along : AutoEdge → List Edge
edges_along e = map (edge_by e) (choices_in e.acts)

-- the edge of the text starts at this point
abbrev pub starts_at : ℕ → AutoEdge → Bool
starts_at p e = e.from == p

-- the edges that start at a point, in order of the text
abbrev pub edges_at : List AutoEdge → ℕ → List Edge
edges_at edges p = flat_map edges_along (filter (starts_at p) edges)

-- all edges, point by point
abbrev pub edges_of : ℕ → List AutoEdge → List Edge
edges_of points edges = flat_map (edges_at edges) (range_with_len 0 points)
