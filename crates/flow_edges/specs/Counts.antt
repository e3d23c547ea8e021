-- How many ways and edges there are, counted without making them.
use Rattle.std.specs.Prelude.{ℕ, ◌+◌, ◌*◌, ◌≤◌, ◌||◌, Bool, true, false, List, [], ◌∷◌, length, if◌then◌else◌}
use Rattle.lang_tree.specs.Tree.{Condition, Deed, sets, havocs, wheres, checks, LoopKind, while_loop, for_loop, do_loop, breaks, continues}
use Rattle.lang_tree.specs.Tree.{returns}
use Rattle.lang_tree.specs.Tree.{Statement, Statements, set, havoc, assume, only_where, check, branch, loop, jump, label, nil, cons}
use Rattle.lang_tree.specs.Cases.{cases_of}
use Rattle.lang_tree.specs.PointNumbers.{splits}
use Rattle.flow_edges.specs.declared.edge_count.JumpCounts.{JumpCounts}
use Rattle.flow_edges.specs.declared.saturated.TheConstants.{ENOUGH}
use Rattle.flow_edges.specs.Edges.{complete, completes}

-- the number of a condition's cases
abbrev pub case_count : Bool → Condition → ℕ
case_count truth c = length (cases_of truth c)

-- the counts of jumps are no larger than counting goes
abbrev pub AreCounted : JumpCounts → Type 0
AreCounted jumps = (jumps.broken ≤ ENOUGH) × (jumps.continued ≤ ENOUGH)

-- where no loop is, a `break` and a `continue` lead nowhere
abbrev pub no_jump_counts : JumpCounts
no_jump_counts = record { broken = 0; continued = 0 }

-- the number of ways along deeds, given that of those from what comes after them
abbrev pub deeds_count : List Deed → ℕ → ℕ
deeds_count [] next = next
deeds_count (sets var form line ∷ ds) next = deeds_count ds next
deeds_count (havocs var line ∷ ds) next = deeds_count ds next
deeds_count (wheres c line ∷ ds) next = case_count true c * deeds_count ds next
deeds_count (checks about c line ∷ ds) next = deeds_count ds next

-- the number of ways from the test of a `do`
abbrev pub test_count : Condition → ℕ → ℕ
test_count c next = case_count true c + case_count false c * next

-- the number of ways from the end of a loop's body, given that of those from what comes after the loop
abbrev pub end_count : LoopKind → Condition → ℕ → ℕ
end_count (while_loop p) c next = 1
end_count (for_loop p g) c next = deeds_count g 1
end_count (do_loop p) c next = deeds_count p (test_count c next)

-- those of the jumps in a loop's body
abbrev pub loop_jump_counts : LoopKind → Condition → ℕ → JumpCounts
loop_jump_counts kind c next = record { broken = next; continued = end_count kind c next }

abbrev mutual
  -- the number of ways from a node to the next point, given those of jumps and that of the ways from what comes after it
  pub way_count_of : Statement → JumpCounts → ℕ → ℕ
  way_count_of (set var form line) jumps next = next
  way_count_of (havoc var line) jumps next = next
  way_count_of (assume c line) jumps next = case_count true c * (if splits c then 1 else next)
  way_count_of (only_where c line) jumps next = case_count true c * next
  way_count_of (check about c line) jumps next = next
  way_count_of (branch c first second line) jumps next = case_count true c * way_count_in first jumps 1 + case_count false c
      * way_count_in second jumps 1
  way_count_of (loop kind c body line) jumps next = 1
  way_count_of (jump breaks line) jumps next = jumps.broken
  way_count_of (jump continues line) jumps next = jumps.continued
  way_count_of (jump returns line) jumps next = 1
  way_count_of (label name line) jumps next = 1

  -- the number of ways along a list of nodes to the next point
  pub way_count_in : Statements → JumpCounts → ℕ → ℕ
  way_count_in nil jumps next = next
  way_count_in (cons s rest) jumps next = way_count_of s jumps (way_count_in rest jumps next)

-- the number of ways through a loop's body
abbrev pub body_count : LoopKind → Condition → Statements → ℕ → ℕ
body_count kind c body next = way_count_in body (loop_jump_counts kind c next) (end_count kind c next)

-- the number of ways into a loop's body or past the loop
abbrev pub turn_count : LoopKind → Condition → Statements → ℕ → ℕ
turn_count kind c body next = case_count true c * body_count kind c body next + case_count false c * next

-- the number of ways from a loop's head
abbrev pub head_count : LoopKind → Condition → Statements → ℕ → ℕ
head_count (while_loop p) c body next = deeds_count p (turn_count (while_loop p) c body next)
head_count (for_loop p g) c body next = deeds_count p (turn_count (for_loop p g) c body next)
head_count (do_loop p) c body next = body_count (do_loop p) c body next

abbrev mutual
  -- the number of edges from the points that a node and the nodes in it make, given those of jumps and that of the ways from what comes
  -- after it
  pub edge_count_of : Statement → JumpCounts → ℕ → ℕ
  edge_count_of (set var form line) jumps next = 0
  edge_count_of (havoc var line) jumps next = 0
  edge_count_of (assume c line) jumps next = if splits c then next else 0
  edge_count_of (only_where c line) jumps next = 0
  edge_count_of (check about c line) jumps next = 0
  edge_count_of (branch c first second line) jumps next =
      edge_count_in first jumps 1 + (edge_count_in second jumps 1 + (if complete first || complete second then next else 0))
  edge_count_of (loop kind c body line) jumps next =
      head_count kind c body next + edge_count_in body (loop_jump_counts kind c next) (end_count kind c next)
  edge_count_of (jump kind line) jumps next = 0
  edge_count_of (label name line) jumps next = next

  -- the same for a list of nodes
  pub edge_count_in : Statements → JumpCounts → ℕ → ℕ
  edge_count_in nil jumps next = 0
  edge_count_in (cons s rest) jumps next =
      edge_count_of s jumps (way_count_in rest jumps next) + (if completes s then edge_count_in rest jumps next else 0)

-- the number of edges from the head of a loop that tests its condition there and from the points of its body, given the number of ways from
-- the end of its body
abbrev pub tested_count : List Deed → Condition → Statements → (end next : ℕ) → ℕ
tested_count p c body end next =
    let inner : JumpCounts = record { broken = next; continued = end } in
    deeds_count p (case_count true c * way_count_in body inner end + case_count false c * next) + edge_count_in body inner end

-- the number of edges of a program
abbrev pub edge_count : Statements → ℕ
edge_count body = way_count_in body no_jump_counts 1 + edge_count_in body no_jump_counts 1
