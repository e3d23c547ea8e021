-- The bounds from which an analysis starts.
use Rattle.std.specs.Prelude.{ℕ, zero, suc, ◌-◌, ◌*◌, List, ◌++◌, replicate}
use Rattle.base_numbers.specs.Extended.{Ext, neg_inf, pos_inf}
use Rattle.flow_systems.specs.Equations.{Vector}

-- +inf at the entry, -inf elsewhere
abbrev pub start_vector : Vector
start_vector zero r = pos_inf
start_vector (suc p) r = neg_inf

-- the list of these bounds: those of the entry come first
abbrev pub start_bounds : ℕ → ℕ → List Ext
start_bounds points rows = replicate rows pos_inf ++ replicate ((points - 1) * rows) neg_inf
