-- The edges of a program in order: for each point, the ways from it to the next points, choice by choice.
use Rattle.std.specs.Prelude.{ℕ, zero, suc, ◌+◌, ◌&&◌, ◌||◌, Bool, true, false, List, [], ◌∷◌, ◌++◌, Option, Some, None, map, flat_map}
use Rattle.std.specs.Prelude.{if◌then◌else◌}
use Rattle.lang_tree.specs.Tree.{Condition, Deed, sets, havocs, wheres, checks, LoopKind, while_loop, for_loop, do_loop, breaks, continues}
use Rattle.lang_tree.specs.Tree.{returns}
use Rattle.lang_tree.specs.Tree.{Statement, Statements, set, havoc, assume, only_where, check, branch, loop, jump, label, nil, cons}
use Rattle.lang_tree.specs.Cases.{cases_of}
use Rattle.lang_tree.specs.PointNumbers.{splits, points_of, points_in, join_of, exit_of}
use Rattle.lang_tree.specs.Runs.{Item, node, mark, turn, end, nodes, head_work}
use Rattle.flow_edges.specs.declared.edge.Action.{Action}
use Rattle.flow_edges.specs.declared.edge.Action.TheVariants.{Assign, Havoc, Check}
use Rattle.flow_edges.specs.declared.edge.Edge.{Edge}
use Rattle.flow_edges.specs.Steps.{guards}

-- a way to the next point: the actions, and the point's number
pub record Way : Type 0 where
  pub actions : List Action
  pub to : ℕ

-- the one way where the point is reached already
abbrev pub arrived : ℕ → List Way
arrived p = record { actions = []; to = p } ∷ []

-- the same ways, with actions before them
abbrev pub prefixed : List Action → List Way → List Way
prefixed actions ways = map (λ w. record { actions = actions ++ w.actions; to = w.to }) ways

-- each case of the condition's truth, and after it each of the ways
abbrev pub by_case : Bool → Condition → List Way → List Way
by_case truth c ways = flat_map (λ forms. prefixed (guards forms) ways) (cases_of truth c)

-- a deed, and after it the ways
abbrev pub deed_ways : Deed → List Way → List Way
deed_ways (sets var form line) ways = prefixed (Assign var form ∷ []) ways
deed_ways (havocs var line) ways = prefixed (Havoc var ∷ []) ways
deed_ways (wheres c line) ways = by_case true c ways
deed_ways (checks about c line) ways = prefixed (Check about ∷ []) ways

-- deeds one after another, and after them the ways
abbrev pub deeds_ways : List Deed → List Way → List Way
deeds_ways [] ways = ways
deeds_ways (d ∷ ds) ways = deed_ways d (deeds_ways ds ways)

-- the ways that go on by a `break`, by a `continue` and by a `return`
pub record Jumps : Type 0 where
  pub broken : List Way
  pub continued : List Way
  pub returned : List Way

-- where no loop is, a jump leads nowhere but to the exit
abbrev pub no_jumps : List Way → Jumps
no_jumps returned = record { broken = []; continued = []; returned = returned }

-- the ways from the test of a `do`: to its head, or past the loop
abbrev pub test_ways : Condition → ℕ → List Way → List Way
test_ways c n next = by_case true c (arrived n) ++ by_case false c next

-- the ways from the end of a loop's body, where the loop's head is n and those from what comes after the loop are `next`
abbrev pub end_ways : LoopKind → Condition → ℕ → List Way → List Way
end_ways (while_loop p) c n next = arrived n
end_ways (for_loop p g) c n next = deeds_ways g (arrived n)
end_ways (do_loop p) c n next = deeds_ways p (test_ways c n next)

-- the jumps in a loop's body
abbrev pub loop_jumps : LoopKind → Condition → ℕ → List Way → List Way → Jumps
loop_jumps kind c n next returned = record { broken = next; continued = end_ways kind c n next; returned = returned }

abbrev mutual
  -- the ways from a node, given those of jumps and those from what comes after it
  pub ways_of : Statement → ℕ → Jumps → List Way → List Way
  ways_of (set var form line) n jumps next = prefixed (Assign var form ∷ []) next
  ways_of (havoc var line) n jumps next = prefixed (Havoc var ∷ []) next
  ways_of (assume c line) n jumps next = by_case true c (if splits c then arrived n else next)
  ways_of (only_where c line) n jumps next = by_case true c next
  ways_of (check about c line) n jumps next = prefixed (Check about ∷ []) next
  ways_of (branch c first second line) n jumps next =
      by_case true c (ways_in first n jumps (arrived (join_of first second n)))
      ++ by_case false c (ways_in second (n + points_in first) jumps (arrived (join_of first second n)))
  ways_of (loop kind c body line) n jumps next = arrived n
  ways_of (jump breaks line) n jumps next = jumps.broken
  ways_of (jump continues line) n jumps next = jumps.continued
  ways_of (jump returns line) n jumps next = jumps.returned
  ways_of (label name line) n jumps next = arrived n

  -- the ways from a list of nodes, given those of jumps and those from what comes after it
  pub ways_in : Statements → ℕ → Jumps → List Way → List Way
  ways_in nil n jumps next = next
  ways_in (cons s rest) n jumps next = ways_of s n jumps (ways_in rest (n + points_of s) jumps next)

-- the ways through a loop's body, the loop's head being n
abbrev pub body_ways : LoopKind → Condition → Statements → ℕ → List Way → List Way → List Way
body_ways kind c body n next returned = ways_in body (n + 1) (loop_jumps kind c n next returned) (end_ways kind c n next)

-- the ways from a loop's turn: into the body or past the loop; at a `do`, to its head or past it
abbrev pub turn_ways : LoopKind → Condition → Statements → ℕ → List Way → List Way → List Way
turn_ways (while_loop p) c body n next returned = by_case true c (body_ways (while_loop p) c body n next returned) ++ by_case false c next
turn_ways (for_loop p g) c body n next returned = by_case true c (body_ways (for_loop p g) c body n next returned) ++ by_case false c next
turn_ways (do_loop p) c body n next returned = test_ways c n next

-- the ways from a loop's head
abbrev pub head_ways : LoopKind → Condition → Statements → ℕ → List Way → List Way → List Way
head_ways (while_loop p) c body n next returned = deeds_ways p (turn_ways (while_loop p) c body n next returned)
head_ways (for_loop p g) c body n next returned = deeds_ways p (turn_ways (for_loop p g) c body n next returned)
head_ways (do_loop p) c body n next returned = body_ways (do_loop p) c body n next returned

abbrev mutual
  -- the ways from a work list of a program with this exit
  pub ways_from : (exit : ℕ) → List Item → List Way
  ways_from exit [] = []
  ways_from exit (mark p ∷ rest) = arrived p
  ways_from exit (node s n ∷ rest) = ways_of s n (jumps_from exit rest) (ways_from exit rest)
  ways_from exit (turn kind c body line n ∷ rest) = turn_ways kind c body n (ways_from exit rest) (arrived exit)
  ways_from exit (end kind c body line n ∷ rest) = end_ways kind c n (ways_from exit rest)

  -- the ways of the jumps that come before this work: those of the first end of a loop, and to the exit
  pub jumps_from : (exit : ℕ) → List Item → Jumps
  jumps_from exit [] = no_jumps (arrived exit)
  jumps_from exit (mark p ∷ rest) = jumps_from exit rest
  jumps_from exit (node s n ∷ rest) = jumps_from exit rest
  jumps_from exit (turn kind c body line n ∷ rest) = jumps_from exit rest
  jumps_from exit (end kind c body line n ∷ rest) = loop_jumps kind c n (ways_from exit rest) (arrived exit)

abbrev mutual
  -- whether what comes after the statement is reached from it, and not by a jump alone: a `while` and a `for` may always be left, a `do`
  -- where its test is reached or a `break` of it
  pub completes : Statement → Bool
  completes (set var form line) = true
  completes (havoc var line) = true
  completes (assume c line) = true
  completes (only_where c line) = true
  completes (check about c line) = true
  completes (branch c first second line) = complete first || complete second
  completes (loop (while_loop p) c body line) = true
  completes (loop (for_loop p g) c body line) = true
  completes (loop (do_loop p) c body line) = complete body || leave_in body
  completes (jump kind line) = false
  completes (label name line) = true

  -- the same of a list of statements
  pub complete : Statements → Bool
  complete nil = true
  complete (cons s rest) = completes s && complete rest

  -- whether a `break` or a `continue` of the loop around the statement is reached in it
  pub may_leave : Statement → Bool
  may_leave (set var form line) = false
  may_leave (havoc var line) = false
  may_leave (assume c line) = false
  may_leave (only_where c line) = false
  may_leave (check about c line) = false
  may_leave (branch c first second line) = leave_in first || leave_in second
  may_leave (loop kind c body line) = false
  may_leave (jump breaks line) = true
  may_leave (jump continues line) = true
  may_leave (jump returns line) = false
  may_leave (label name line) = false

  -- the same of a list of statements; none after a jump is reached
  pub leave_in : Statements → Bool
  leave_in nil = false
  leave_in (cons s rest) = may_leave s || (completes s && leave_in rest)

abbrev mutual
  -- whether a `return` is reached in the statement
  pub may_return : Statement → Bool
  may_return (set var form line) = false
  may_return (havoc var line) = false
  may_return (assume c line) = false
  may_return (only_where c line) = false
  may_return (check about c line) = false
  may_return (branch c first second line) = return_in first || return_in second
  may_return (loop kind c body line) = return_in body
  may_return (jump breaks line) = false
  may_return (jump continues line) = false
  may_return (jump returns line) = true
  may_return (label name line) = false

  -- the same of a list of statements; none after a jump is reached
  pub return_in : Statements → Bool
  return_in nil = false
  return_in (cons s rest) = may_return s || (completes s && return_in rest)

-- the work that is left after a point's mark; none after a point that no run comes to
abbrev pub Behind : Type 0
Behind = Option (List Item)

-- points that no run comes to
abbrev pub unreached : ℕ → List Behind
unreached zero = []
unreached (suc k) = None ∷ unreached k

abbrev mutual
  -- the work that is left after the mark of each point that a node and the nodes in it make, in order, where `rest` is left after the node
  pub behind_of : Statement → ℕ → List Item → List Behind
  behind_of (set var form line) n rest = []
  behind_of (havoc var line) n rest = []
  behind_of (assume c line) n rest = if splits c then Some rest ∷ [] else []
  behind_of (only_where c line) n rest = []
  behind_of (check about c line) n rest = []
  behind_of (branch c first second line) n rest =
      behind_in first n (mark (join_of first second n) ∷ rest)
      ++ (behind_in second (n + points_in first) (mark (join_of first second n) ∷ rest)
      ++ (if complete first || complete second then Some rest else None) ∷ [])
  behind_of (loop kind c body line) n rest = Some (head_work kind c body line n rest)
      ∷ behind_in body (n + 1) (end kind c body line n ∷ rest)
  behind_of (jump kind line) n rest = []
  behind_of (label name line) n rest = Some rest ∷ []

  -- the same for a list of nodes; no run comes to those after a jump
  pub behind_in : Statements → ℕ → List Item → List Behind
  behind_in nil n rest = []
  behind_in (cons s more) n rest =
      behind_of s n (nodes more (n + points_of s) ++ rest)
      ++ (if completes s then behind_in more (n + points_of s) rest else unreached (points_in more))

-- the work that is left after each point of a program, in order
abbrev pub behind_points : Statements → List Behind
behind_points body =
    Some (nodes body 1 ++ mark (exit_of body) ∷ [])
    ∷ (behind_in body 1 (mark (exit_of body) ∷ []) ++ (if complete body || return_in body then Some [] else None) ∷ [])

-- the ways on from a point
abbrev pub ways_behind : (exit : ℕ) → Behind → List Way
ways_behind exit None = []
ways_behind exit (Some work) = ways_from exit work

-- the edges from the points after which these works are left, the first point being p
abbrev pub edges_from : (exit p : ℕ) → List Behind → List Edge
edges_from exit p [] = []
edges_from exit p (behind ∷ more) = map (λ w. record { from = p; to = w.to; actions = w.actions }) (ways_behind exit behind)
    ++ edges_from exit (suc p) more

-- the edges of a program
abbrev pub edges_of_program : Statements → List Edge
edges_of_program body = edges_from (exit_of body) 0 (behind_points body)
