-- Where the columns of a joint problem stand, and what is read from its outcome.
use Rattle.std.specs.Prelude.{ℕ, zero, suc, ◌+◌, ◌<◌, List, [], ◌∷◌, length, get_or, map, flat_map, Option}
use Rattle.base_numbers.specs.Rational.{ℚ, ◌+ℚ◌}
use Rattle.base_numbers.specs.Extended.{Ext, neg_inf}
use Rattle.base_fractions.specs.declared.wide.Op.TheVariants.{Add}
use Rattle.base_fractions.specs.Operation.{Operation}
use Rattle.flow_systems.specs.declared.system.System.{System}
use Rattle.flow_systems.specs.declared.trace.Trace.{Trace}
use Rattle.theory_validity.specs.Words.{free_count}
use Rattle.theory_validity.specs.Certificates.{num}
use Rattle.solve_ray.specs.declared.layout.Rise.{Rise}
use Rattle.solve_ray.specs.Reading.{at_column, differences, direction_operations}
use Rattle.solve_joint.specs.Blocks.{edge_at, edge_for, split_width}

-- so many columns from a first one on, two apart
abbrev pub columns_from : ℕ → ℕ → List ℕ
columns_from first zero = []
columns_from first (suc n) = first ∷ columns_from (first + 2) n

-- the columns of one unknown of a list of n: its rise at its place, and its words from an offset behind the rises
abbrev pub rise_of : System → List (Option ℕ) → ℕ → ℕ → ℕ → ℕ → Rise
rise_of system pick n place offset u = record {
  unknown = u;
  col = place;
  starts = columns_from (n + offset) (length system.flow.names);
  frees = columns_from (n + offset + (length system.flow.names + length system.flow.names))
      (free_count (edge_at system (edge_for pick u)).actions);
}

abbrev pub rises_from : System → List (Option ℕ) → ℕ → ℕ → ℕ → List ℕ → List Rise
rises_from system pick n place offset [] = []
rises_from system pick n place offset (u ∷ rest) =
    rise_of system pick n place offset u ∷ rises_from system pick n (place + 1) (offset + split_width system (edge_for pick u)) rest

-- the columns of a whole list
abbrev pub layout_of : System → List (Option ℕ) → List ℕ → List Rise
layout_of system pick list = rises_from system pick (length list) 0 0 list

-- ---- what is read from a point
-- base plus rise
abbrev pub number_at : List Ext → List ℚ → Rise → ℚ
number_at base point rise = num (get_or base rise.unknown neg_inf) +ℚ at_column point rise.col

abbrev pub trace_at : List ℚ → Rise → Trace
trace_at point rise = record { start = differences point rise.starts; free = differences point rise.frees }

abbrev pub number_operation : List Ext → List ℚ → Rise → Operation
number_operation base point rise = record { op = Add; left = num (get_or base rise.unknown neg_inf); right = at_column point rise.col }

-- the numbers of the list first, then the traces in the order of the list
abbrev pub number_operations : List Ext → List ℚ → List Rise → List Operation
number_operations base point rises = map (number_operation base point) rises

abbrev pub trace_operations : List ℚ → List Rise → List Operation
trace_operations point rises = flat_map (direction_operations point) rises

-- every listed unknown has a bound
abbrev pub AreBounded : ℕ → List Rise → Type 0
AreBounded n [] = Unit {0}
AreBounded n (rise ∷ rises) = (rise.unknown < n) × AreBounded n rises
