-- Which points and edges make a flow within the limits.
use Rattle.std.specs.Prelude.{◌+◌, ◌==◌, ◌&&◌, ◌||◌, ℕ, Bool, true, false, not, List, [], ◌∷◌, length, nat_lt, nat_le}
use Rattle.std.specs.List.{list_all}
use Rattle.lang_tree.specs.Limits.{is_form}
use Rattle.flow_edges.specs.declared.edge.Action.{Action}
use Rattle.flow_edges.specs.declared.edge.Action.TheVariants.{Guard, Assign, Havoc, Check}
use Rattle.flow_edges.specs.declared.edge.Edge.{Edge}
use Rattle.flow_edges.specs.declared.point.Place.{Place}
use Rattle.flow_edges.specs.declared.point.Place.TheVariants.{Entry, Loop, Label, Join, Assume, Exit}
use Rattle.flow_edges.specs.declared.point.Point.{Point}
use Rattle.flow_edges.specs.declared.limits.TheConstants.{MOST_POINTS, MOST_EDGES, MOST_ACTIONS}
use Rattle.lang_tree.specs.declared.limits.TheConstants.{MOST_VARIABLES, MOST_HIDDEN}

-- the entry
abbrev pub is_entry : Place → Bool
is_entry Entry = true
is_entry Loop = false
is_entry (Label name) = false
is_entry Join = false
is_entry Assume = false
is_entry Exit = false

-- the exit
abbrev pub is_exit : Place → Bool
is_exit Entry = false
is_exit Loop = false
is_exit (Label name) = false
is_exit Join = false
is_exit Assume = false
is_exit Exit = true

-- the first point alone is the entry
abbrev pub begins_with_entry : List Point → Bool
begins_with_entry [] = false
begins_with_entry (p ∷ ps) = is_entry p.place && list_all (λ q. not (is_entry q.place)) ps

-- the entry and an exit have line 0
abbrev pub has_line : Point → Bool
has_line p = not (is_entry p.place || is_exit p.place) || p.line == 0

-- variables and forms are over n variables
abbrev pub is_action : ℕ → Action → Bool
is_action n (Guard form) = is_form n form
is_action n (Assign var form) = nat_lt var n && is_form n form
is_action n (Havoc var) = nat_lt var n
is_action n (Check about) = true

-- it goes from a point to another than the entry, with no more actions than it may have
abbrev pub is_edge : ℕ → ℕ → Edge → Bool
is_edge n points e = nat_lt e.from points && (nat_lt 0 e.to && (nat_lt e.to points
    && (nat_le (length e.actions) MOST_ACTIONS && list_all (is_action n) e.actions)))

-- at least one name and two points, and no more of them and of edges than there may be; actions are over the variables of these names and
-- the hidden ones behind them
abbrev pub is_flow : List (List ℕ) → List Point → List Edge → Bool
is_flow names points edges =
    (nat_le 1 (length names) && nat_le (length names) MOST_VARIABLES)
    && ((nat_le 2 (length points) && nat_le (length points) MOST_POINTS)
    && ((begins_with_entry points && list_all has_line points)
    && (nat_le (length edges) MOST_EDGES && list_all (is_edge (length names + MOST_HIDDEN) (length points)) edges)))
