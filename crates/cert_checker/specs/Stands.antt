-- Which lists of bounds stand for a vector.
use Rattle.std.specs.Prelude.{◌≡◌, ℕ, ◌+◌, ◌*◌, ◌<◌, List, length, get_or, nat_lt, if◌then◌else◌}
use Rattle.base_numbers.specs.Extended.{Ext, neg_inf, pos_inf}
use Rattle.flow_systems.specs.Equations.{Equations, Vector}

-- the unknown of point p and row r has the number p * rows + r
pub record Stands (system : Equations) (bounds : List Ext) (z : Vector) : Type 0 where
  pub size : length bounds ≡ system.points * length system.template
  pub at : (p r : ℕ) → p < system.points → r < length system.template → get_or bounds (p * length system.template + r) neg_inf ≡ z p r

-- the bound from which an unknown starts, where there are so many rows: those of the entry come first
abbrev pub start_at : ℕ → ℕ → Ext
start_at rows u = if nat_lt u rows then pos_inf else neg_inf
