-- Why a program has no flow within the limits.
use Rattle.std.specs.Prelude.{ℕ, ◌||◌, Bool, true, false, List, [], ◌∷◌, ◌++◌, Option, Some, None, length, nat_lt, option_map, position}
use Rattle.std.specs.Prelude.{if◌then◌else◌}
use Rattle.std.specs.List.{sum_by}
use Rattle.lang_tree.specs.Tree.{Condition, Statement, Statements, set, havoc, assume, only_where, check, branch, loop, jump, label}
use Rattle.lang_tree.specs.Tree.{nil, cons, Deed, sets, havocs, wheres, checks, LoopKind, while_loop, for_loop, do_loop}
use Rattle.lang_tree.specs.Cases.{cases_of}
use Rattle.lang_tree.specs.PointNumbers.{point_count}
use Rattle.flow_edges.specs.declared.edge.Edge.{Edge}
use Rattle.flow_edges.specs.declared.fault.FlowFault.{FlowFault}
use Rattle.flow_edges.specs.declared.fault.FlowFault.TheVariants as fault
use Rattle.flow_edges.specs.Edges.{edges_of_program}
use Rattle.flow_edges.specs.Checks.{checks_in}
use Rattle.flow_edges.specs.declared.limits.TheConstants.{MOST_POINTS, MOST_EDGES, MOST_ACTIONS, MOST_ALL_ACTIONS, MOST_CHECKS}

-- a condition has more than 64 cases for this truth
abbrev pub is_wide : Bool → Condition → Bool
is_wide truth c = nat_lt 64 (length (cases_of truth c))

-- the line alone where the test holds
abbrev pub line_if : Bool → ℕ → List ℕ
line_if b line = if b then line ∷ [] else []

-- the lines of deeds whose condition has more than 64 cases for the truth that is used: true at a `where`, false at a check
abbrev pub wide_deeds : List Deed → List ℕ
wide_deeds [] = []
wide_deeds (sets var form line ∷ ds) = wide_deeds ds
wide_deeds (havocs var line ∷ ds) = wide_deeds ds
wide_deeds (wheres c line ∷ ds) = line_if (is_wide true c) line ++ wide_deeds ds
wide_deeds (checks about c line ∷ ds) = line_if (is_wide false c) line ++ wide_deeds ds

-- those of a loop, given its condition's: the prelude's before it, the change's behind it
abbrev pub wide_kind : LoopKind → List ℕ → List ℕ
wide_kind (while_loop p) tested = wide_deeds p ++ tested
wide_kind (for_loop p g) tested = wide_deeds p ++ (tested ++ wide_deeds g)
wide_kind (do_loop p) tested = wide_deeds p ++ tested

abbrev mutual
  -- the lines of a statement and of those in it, in order of the text,
  -- whose condition has more than 64 cases for a truth that is used: an assumption and a `where` use true alone, a check false alone
  pub wide_lines_of : Statement → List ℕ
  wide_lines_of (set var form line) = []
  wide_lines_of (havoc var line) = []
  wide_lines_of (assume c line) = line_if (is_wide true c) line
  wide_lines_of (only_where c line) = line_if (is_wide true c) line
  wide_lines_of (check about c line) = line_if (is_wide false c) line
  wide_lines_of (branch c first second line) = line_if (is_wide true c || is_wide false c) line
      ++ (wide_lines_in first ++ wide_lines_in second)
  wide_lines_of (loop kind c body line) = wide_kind kind (line_if (is_wide true c || is_wide false c) line) ++ wide_lines_in body
  wide_lines_of (jump kind line) = []
  wide_lines_of (label name line) = []

  -- the same for a list of statements
  pub wide_lines_in : Statements → List ℕ
  wide_lines_in nil = []
  wide_lines_in (cons s rest) = wide_lines_of s ++ wide_lines_in rest

-- the first of a list
abbrev pub first_of : List ℕ → Option ℕ
first_of [] = None
first_of (n ∷ ns) = Some n

-- an edge with more actions than so many
abbrev pub is_longer : ℕ → Edge → Bool
is_longer most e = nat_lt most (length e.actions)

-- an edge with more actions than it may have
abbrev pub is_long : Edge → Bool
is_long e = is_longer MOST_ACTIONS e

-- the first edge that is too long
abbrev pub long_fault : List Edge → Option FlowFault
long_fault edges = option_map (λ e. fault.Actions e) (position is_long edges)

-- how many actions an edge has
abbrev pub action_count : Edge → ℕ
action_count e = length e.actions

-- edges with more actions together than all edges may have
abbrev pub has_many_actions : List Edge → Bool
has_many_actions edges = nat_lt MOST_ALL_ACTIONS (sum_by action_count edges)

-- too many actions of all edges together
abbrev pub actions_fault : List Edge → Option FlowFault
actions_fault edges = if has_many_actions edges then Some fault.AllActions else None

-- what is seen by counting: the first line with a condition of more than 64 cases, or else too many points, or else too many edges
abbrev pub counted_after : List ℕ → Statements → Option FlowFault
counted_after [] body =
    if nat_lt MOST_POINTS (point_count body) then Some (fault.Points (point_count body))
    else (if nat_lt MOST_EDGES (length (edges_of_program body)) then Some fault.Edges else None)
counted_after (line ∷ lines) body = Some (fault.Cases line)

-- what is seen by counting of a program
abbrev pub counted_fault : Statements → Option FlowFault
counted_fault body = counted_after (wide_lines_in body) body

-- the first of two
abbrev pub fault_or : Option FlowFault → Option FlowFault → Option FlowFault
fault_or None other = other
fault_or (Some f) other = Some f

-- too many checks
abbrev pub checks_fault : Statements → Option FlowFault
checks_fault body = if nat_lt MOST_CHECKS (length (checks_in body)) then Some (fault.Checks (length (checks_in body))) else None

-- the first fault of a program: what is seen by counting, or else the first edge that is too long, or else too many actions of all edges,
-- or else too many checks
abbrev pub fault_of_program : Statements → Option FlowFault
fault_of_program body = fault_or (counted_fault body) (fault_or (long_fault (edges_of_program body))
    (fault_or (actions_fault (edges_of_program body)) (checks_fault body)))
