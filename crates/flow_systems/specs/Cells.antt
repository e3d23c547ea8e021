-- The size of the largest joint problem of a system: how many of its entries can differ from 0.
use Rattle.std.specs.Prelude.{◌==◌, ◌+◌, ◌-◌, ◌*◌, ℕ, Bool, true, false, List, [], ◌∷◌, length, map, max}
use Rattle.std.specs.List.{filter, list_any, sum_by, count_by, range_with_len}
use Rattle.flow_edges.specs.declared.edge.Action.{Action}
use Rattle.flow_edges.specs.declared.edge.Action.TheVariants.{Guard, Assign, Havoc, Check}
use Rattle.flow_edges.specs.declared.edge.Edge.{Edge}
use Rattle.flow_edges.specs.declared.limits.TheConstants.{MOST_ACTIONS}
use Rattle.flow_templates.specs.declared.limits.TheConstants.{MOST_ROWS}
use Rattle.lang_tree.specs.declared.limits.TheConstants.{MOST_VARIABLES}
use Rattle.flow_systems.specs.FreeValues.{free_count}
use Rattle.flow_systems.specs.Equations.{Equations}

-- a guard
abbrev pub is_guard : Action → Bool
is_guard (Guard form) = true
is_guard (Assign var form) = false
is_guard (Havoc var) = false
is_guard (Check about) = false

-- a free assignment
abbrev pub is_havoc : Action → Bool
is_havoc (Guard form) = false
is_havoc (Assign var form) = false
is_havoc (Havoc var) = true
is_havoc (Check about) = false

-- how many guards there are
abbrev pub guard_count : List Action → ℕ
guard_count actions = count_by is_guard actions

-- the greatest of some numbers, 0 of none
abbrev pub greatest : List ℕ → ℕ
greatest [] = 0
greatest (n ∷ ns) = max n (greatest ns)

-- what is counted on an edge into the point, at its greatest
abbrev pub most : (List Action → ℕ) → List Edge → ℕ → ℕ
most count edges p = greatest (map (λ e. count e.actions) (filter (λ e. e.to == p) edges))

-- the points other than the entry at which an edge ends
abbrev pub targets : Equations → List ℕ
targets system = filter (λ p. list_any (λ e. e.to == p) system.edges) (range_with_len 1 (system.points - 1))

-- how many entries of a joint problem one unknown's block can have that differ from 0. Each row of the template at the source has two for
-- each variable, one at a rise, and its side; each guard, and the unknown's own row, has two for each variable and for each free value, and
-- its side; the unknown's rise has one in its own row and one in the goal. All others are 0
abbrev pub block_cells : ℕ → ℕ → ℕ → ℕ → ℕ
block_cells rows variables guards frees = rows * (2 * variables + 2) + (guards + 1) * (2 * (variables + frees) + 1) + 2

-- the block of an unknown has at most so many, whatever the system
abbrev pub most_block_cells : ℕ
most_block_cells = block_cells MOST_ROWS MOST_VARIABLES MOST_ACTIONS MOST_ACTIONS

-- those of an unknown at a point, with the most guards and the most free values of an edge into it
abbrev pub unknown_cells : Equations → ℕ → ℕ
unknown_cells system p = block_cells (length system.template) system.variables (most guard_count system.edges p)
    (most free_count system.edges p)

-- those of all unknowns at points where an edge ends, one for each row
abbrev pub cells_of : Equations → ℕ
cells_of system = sum_by (λ p. length system.template * unknown_cells system p) (targets system)
