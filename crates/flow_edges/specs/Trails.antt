-- Edges that are walked, action by action.
use Rattle.std.specs.Prelude.{ℕ, ◌+◌, ◌||◌, true, false, List, [], ◌∷◌, ◌++◌, map, flat_map, take, if◌then◌else◌}
use Rattle.lang_tree.specs.declared.form.Form.{Form}
use Rattle.lang_tree.specs.Tree.{Condition, Statement, Statements, set, havoc, assume, only_where, check, branch, loop, jump, label}
use Rattle.lang_tree.specs.Tree.{nil, cons, Deed, sets, havocs, wheres, checks}
use Rattle.lang_tree.specs.Cases.{cases_of}
use Rattle.lang_tree.specs.PointNumbers.{splits, points_of, points_in, join_of, exit_of}
use Rattle.flow_edges.specs.declared.edge.Action.{Action}
use Rattle.flow_edges.specs.declared.edge.Action.TheVariants.{Assign, Havoc, Check}
use Rattle.flow_edges.specs.declared.edge.Edge.{Edge}
use Rattle.flow_edges.specs.declared.limits.TheConstants.{KEPT}
use Rattle.flow_edges.specs.declared.onward.JumpEdges.{JumpEdges}
use Rattle.flow_edges.specs.Steps.{guards}
use Rattle.flow_edges.specs.Edges.{Way, arrived, by_case, deeds_ways, Jumps, no_jumps, end_ways, loop_jumps, head_ways, ways_in, complete}
use Rattle.flow_edges.specs.Edges.{completes}

-- an edge as far as it has been walked
pub record Begun : Type 0 where
  pub from : ℕ
  pub actions : List Action

-- of an edge's actions those up to one more than it may have are kept: with more than it may have it is refused
abbrev pub kept : List Action → List Action
kept actions = take KEPT actions

-- an edge that is begun at a point
abbrev pub begun_at : ℕ → Begun
begun_at p = record { from = p; actions = [] }

-- more actions after it
abbrev pub followed : Begun → List Action → Begun
followed b actions = record { from = b.from; actions = kept (b.actions ++ actions) }

-- the edges that go on by each of the ways
abbrev pub reached : Begun → List Way → List Edge
reached b ways = map (λ w. record { from = b.from; to = w.to; actions = kept (b.actions ++ w.actions) }) ways

-- the edges that go on by each case and then by each of the ways
abbrev pub split : Begun → List (List Form) → List Way → List Edge
split b cases ways = flat_map (λ forms. reached (followed b (guards forms)) ways) cases

-- the ways that edges are which have been walked
abbrev pub walked : List Edge → List Way
walked edges = map (λ e. record { actions = e.actions; to = e.to }) edges

-- the ways of the jumps: a `return` is at the exit already
abbrev pub jumps_of : JumpEdges → Jumps
jumps_of jumps = record { broken = walked jumps.broken; continued = walked jumps.continued; returned = arrived jumps.exit }

-- the ways from the head of a loop that tests its condition there: by the prelude into the body, at whose end a `continue` goes on, or past
-- the loop
abbrev pub ways_by_turn : List Deed → Condition → Statements → ℕ → Jumps → List Way
ways_by_turn p c body n jumps = deeds_ways p (by_case true c (ways_in body (n + 1) jumps jumps.continued) ++ by_case false c jumps.broken)

-- an edge that is begun, by each of the cases
abbrev pub by_cases : List (List Form) → Begun → List Begun
by_cases cases b = map (λ forms. followed b (guards forms)) cases

-- an edge that is begun, by a deed: one for each case of a `where`
abbrev pub begun_by : Deed → Begun → List Begun
begun_by (sets var form line) b = followed b (Assign var form ∷ []) ∷ []
begun_by (havocs var line) b = followed b (Havoc var ∷ []) ∷ []
begun_by (wheres c line) b = by_cases (cases_of true c) b
begun_by (checks about c line) b = followed b (Check about ∷ []) ∷ []

-- edges that are begun, by deeds one after another
abbrev pub begun_along : List Deed → List Begun → List Begun
begun_along [] bs = bs
begun_along (d ∷ ds) bs = begun_along ds (flat_map (begun_by d) bs)

abbrev mutual
  -- the edges from the points that a node and the nodes in it make, in order, given the ways of jumps and those from what comes after it
  pub edges_in_node : Statement → ℕ → Jumps → List Way → List Edge
  edges_in_node (set var form line) n jumps next = []
  edges_in_node (havoc var line) n jumps next = []
  edges_in_node (assume c line) n jumps next = if splits c then reached (begun_at n) next else []
  edges_in_node (only_where c line) n jumps next = []
  edges_in_node (check about c line) n jumps next = []
  edges_in_node (branch c first second line) n jumps next =
      edges_in_nodes first n jumps (arrived (join_of first second n))
      ++ (edges_in_nodes second (n + points_in first) jumps (arrived (join_of first second n))
      ++ (if complete first || complete second then reached (begun_at (join_of first second n)) next else []))
  edges_in_node (loop kind c body line) n jumps next =
      reached (begun_at n) (head_ways kind c body n next jumps.returned)
      ++ edges_in_nodes body (n + 1) (loop_jumps kind c n next jumps.returned) (end_ways kind c n next)
  edges_in_node (jump kind line) n jumps next = []
  edges_in_node (label name line) n jumps next = reached (begun_at n) next

  -- the same for a list of nodes; none from those after a jump
  pub edges_in_nodes : Statements → ℕ → Jumps → List Way → List Edge
  edges_in_nodes nil n jumps next = []
  edges_in_nodes (cons s rest) n jumps next =
      edges_in_node s n jumps (ways_in rest (n + points_of s) jumps next)
      ++ (if completes s then edges_in_nodes rest (n + points_of s) jumps next else [])

-- those of a loop and of the nodes in it, which depend on no jump outside but a `return`; none of another node
abbrev pub edges_in_loop : Statement → ℕ → List Way → List Way → List Edge
edges_in_loop (set var form line) n next returned = []
edges_in_loop (havoc var line) n next returned = []
edges_in_loop (assume c line) n next returned = []
edges_in_loop (only_where c line) n next returned = []
edges_in_loop (check about c line) n next returned = []
edges_in_loop (branch c first second line) n next returned = []
edges_in_loop (loop kind c body line) n next returned = edges_in_node (loop kind c body line) n (no_jumps returned) next
edges_in_loop (jump kind line) n next returned = []
edges_in_loop (label name line) n next returned = []

-- the edges of a program, each with the actions that are kept of it
abbrev pub kept_edges : Statements → List Edge
kept_edges body =
    let exit = arrived (exit_of body) in
    reached (begun_at 0) (ways_in body 1 (no_jumps exit) exit) ++ edges_in_nodes body 1 (no_jumps exit) exit

-- an edge with the actions that are kept of it
abbrev pub kept_edge : Edge → Edge
kept_edge e = record e { actions = kept e.actions }
