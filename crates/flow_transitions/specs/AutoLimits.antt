-- Which points and edges make a transition system within the limits.
use Rattle.std.specs.Prelude.{◌==◌, ◌&&◌, ℕ, Bool, true, false, List, [], ◌∷◌, length, nat_lt, nat_le}
use Rattle.std.specs.List.{list_all}
use Rattle.lang_tree.specs.Tree.{Statement, Statements, set, havoc, assume, only_where, check, branch, loop, jump, label, nil, cons}
use Rattle.lang_tree.specs.Limits.{is_form, is_tested}
use Rattle.flow_transitions.specs.declared.limits.TheConstants.{MOST_POINTS, MOST_VARIABLES}
use Rattle.flow_edges.specs.declared.point.Place.{Place}
use Rattle.flow_edges.specs.declared.point.Place.TheVariants.{Entry, Loop, Label, Join, Assume, Exit}
use Rattle.flow_edges.specs.declared.point.Point.{Point}
use Rattle.flow_edges.specs.FlowLimits.{is_entry}
use Rattle.flow_transitions.specs.declared.auto_edge.AutoEdge.{AutoEdge}

-- an act is an assignment, a free one or an assumption over n variables
abbrev pub is_act : ℕ → Statement → Bool
is_act n (set var form line) = nat_lt var n && is_form n form
is_act n (havoc var line) = nat_lt var n
is_act n (assume cond line) = is_tested n cond
is_act n (only_where cond line) = false
is_act n (check about cond line) = false
is_act n (branch cond first second line) = false
is_act n (loop kind cond body line) = false
is_act n (jump kind line) = false
is_act n (label name line) = false

-- each statement is such an act
abbrev pub are_acts : ℕ → Statements → Bool
are_acts n nil = true
are_acts n (cons s rest) = is_act n s && are_acts n rest

-- an edge goes from a point to another than the first, by acts over n variables
abbrev pub is_auto_edge : ℕ → ℕ → AutoEdge → Bool
is_auto_edge n points e = nat_lt e.from points && (nat_lt 0 e.to && (nat_lt e.to points && are_acts n e.acts))

-- a label
abbrev pub is_label : Place → Bool
is_label Entry = false
is_label Loop = false
is_label (Label name) = true
is_label Join = false
is_label Assume = false
is_label Exit = false

-- the first point is the entry and has line 0, each other one is a label
abbrev pub are_labels : List Point → Bool
are_labels [] = false
are_labels (p ∷ ps) = (is_entry p.place && p.line == 0) && list_all (λ q. is_label q.place) ps

-- at least one name and two points, and no more of them than there may be
abbrev pub is_auto : List (List ℕ) → List Point → List AutoEdge → Bool
is_auto names points edges =
    (nat_le 1 (length names) && nat_le (length names) MOST_VARIABLES)
    && ((nat_le 2 (length points) && nat_le (length points) MOST_POINTS)
    && (are_labels points && list_all (is_auto_edge (length names) (length points)) edges))
