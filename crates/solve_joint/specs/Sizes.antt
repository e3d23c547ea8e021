-- How large the joint problem of a list can be.
use Rattle.std.specs.Prelude.{ℕ, zero, suc, ◌+◌, Bool, true, false, ℤ, pos, negsuc, List, length, Option}
use Rattle.std.specs.List.{count_by, sum_by}
use Rattle.base_numbers.specs.Rational.{ℚ}
use Rattle.flow_systems.specs.Cells.{guard_count, block_cells}
use Rattle.flow_systems.specs.FreeValues.{free_count}
use Rattle.flow_systems.specs.declared.system.System.{System}
use Rattle.flow_systems.specs.View.{edge_at}
use Rattle.solve_joint.specs.Blocks.{edge_for}

-- how many entries the block of a listed unknown has at most that differ from 0, by its picked edge
abbrev pub edge_cells : System → ℕ → ℕ
edge_cells system edge = block_cells (length system.template) (length system.flow.names) (guard_count (edge_at system edge).actions)
    (free_count (edge_at system edge).actions)

-- how many a list's joint problem has at most, whatever the bounds
abbrev pub cells_in : System → List (Option ℕ) → List ℕ → ℕ
cells_in system pick list = sum_by (λ u. edge_cells system (edge_for pick u)) list

-- whether a number differs from 0
abbrev pub is_other : ℤ → Bool
is_other (pos zero) = false
is_other (pos (suc n)) = true
is_other (negsuc n) = true

-- how many entries of a list do
abbrev pub others : List ℚ → ℕ
others entries = count_by (λ q. is_other q.num) entries

-- how many entries of a problem may: those coefficients, the sides, and those of the goal
abbrev pub entries_of : List (List ℚ) → List ℚ → ℕ
entries_of rows goal = sum_by (λ row. others row + 1) rows + others goal
