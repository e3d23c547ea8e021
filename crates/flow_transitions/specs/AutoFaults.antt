-- Why a transition system has no flow within the limits.
use Rattle.std.specs.Prelude.{◌||◌, ℕ, Bool, true, false, List, Option, Some, None, length, nat_lt, option_map, position, if◌then◌else◌}
use Rattle.std.specs.List.{find}
use Rattle.lang_tree.specs.Tree.{Statement, Statements, set, havoc, assume, only_where, check, branch, loop, jump, label, nil, cons}
use Rattle.flow_edges.specs.declared.edge.Edge.{Edge}
use Rattle.flow_edges.specs.Faults.{is_wide, is_longer}
use Rattle.flow_transitions.specs.declared.auto_edge.AutoEdge.{AutoEdge}
use Rattle.flow_transitions.specs.declared.fault.AutoFault.{AutoFault}
use Rattle.flow_transitions.specs.declared.fault.AutoFault.TheVariants.{Cases, Edges, Actions}
use Rattle.flow_transitions.specs.declared.limits.TheConstants.{MOST_EDGES, MOST_ACTIONS}
use Rattle.flow_transitions.specs.Choices.{edges_of}

-- an assumption with more than 64 cases
abbrev pub is_wide_act : Statement → Bool
is_wide_act (set var form line) = false
is_wide_act (havoc var line) = false
is_wide_act (assume cond line) = is_wide true cond
is_wide_act (only_where cond line) = false
is_wide_act (check about cond line) = false
is_wide_act (branch cond first second line) = false
is_wide_act (loop kind cond body line) = false
is_wide_act (jump kind line) = false
is_wide_act (label name line) = false

-- one of the acts is such an assumption
abbrev pub has_wide : Statements → Bool
has_wide nil = false
has_wide (cons s rest) = is_wide_act s || has_wide rest

-- the first edge of the text with such an assumption
abbrev pub cases_fault : List AutoEdge → Option AutoFault
cases_fault edges = option_map (λ e. Cases e.at) (find (λ e. has_wide e.acts) edges)

-- more edges than there may be
abbrev pub edges_fault : List Edge → Option AutoFault
edges_fault edges = if nat_lt MOST_EDGES (length edges) then Some Edges else None

-- an edge with more actions than it may have
abbrev pub is_long : Edge → Bool
is_long e = is_longer MOST_ACTIONS e

-- the first edge that is too long
abbrev pub actions_fault : List Edge → Option AutoFault
actions_fault edges = option_map (λ k. Actions k) (position is_long edges)

-- the first of two
abbrev pub fault_or : Option AutoFault → Option AutoFault → Option AutoFault
fault_or None other = other
fault_or (Some f) other = Some f

-- the first fault of so many points and these edges
abbrev pub fault_of : ℕ → List AutoEdge → Option AutoFault
fault_of points edges = fault_or (cases_fault edges) (fault_or (edges_fault (edges_of points edges))
    (actions_fault (edges_of points edges)))
