-- The rows of one listed unknown, over the numbers of the list.
use Rattle.std.specs.Prelude.{ℕ, ◌+◌, ◌*◌, ◌%◌, List, [], ◌∷◌, ◌++◌, length, get_or, map, Option, None}
use Rattle.base_numbers.specs.Rational.{zero_ℚ, one_ℚ, neg_ℚ, ◌-ℚ◌}
use Rattle.base_numbers.specs.Extended.{Ext, neg_inf}
use Rattle.base_fractions.specs.Operation.{Operation}
use Rattle.flow_systems.specs.declared.system.System.{System}
use Rattle.flow_systems.specs.View.{vector_of}
pub use Rattle.flow_systems.specs.View.{edge_at, row_at}
use Rattle.theory_validity.specs.Words.{Affine, width, guard_forms, end_form}
use Rattle.theory_validity.specs.Certificates.{num}
use Rattle.theory_transformers.specs.Limits.{Limit}
use Rattle.theory_transformers.specs.EdgeProblems.{source_limits, guard_limits}
use Rattle.solve_joint.specs.Numbers.{edge_of}
use Rattle.solve_joint.specs.Rows.{embedded, own_limit_of, side_operation}

-- the rows of the template at a point whose bound is finite; a row whose own unknown is listed has -1 on the rise of that unknown
abbrev pub sources_of : System → List Ext → List ℕ → ℕ → ℕ → List Limit
sources_of system base list offset point =
    source_limits (λ r. embedded (neg_ℚ one_ℚ) (point * length system.template + r) list offset) (length system.flow.names)
    (vector_of (length system.template) base point) system.template

-- the guards of an edge
abbrev pub guards_of : System → List ℕ → ℕ → ℕ → List Limit
guards_of system list offset edge = guard_limits (embedded zero_ℚ 0 list offset)
    (guard_forms (length system.flow.names) (edge_at system edge).actions)

-- the value of a row at the end of an edge
abbrev pub end_at : System → ℕ → ℕ → Affine
end_at system edge row = end_form (length system.flow.names) (edge_at system edge).actions (row_at system row)

-- the own row of an unknown: its rise minus the end value, at most the end value's constant minus the bound
abbrev pub own_of : System → List Ext → List ℕ → ℕ → ℕ → ℕ → ℕ → Limit
own_of system base list offset edge row u = own_limit_of (embedded one_ℚ u list offset) (end_at system edge row)
    ((end_at system edge row).constant -ℚ num (get_or base u neg_inf))

-- the operation of its side
abbrev pub side_of : System → List Ext → ℕ → ℕ → ℕ → Operation
side_of system base edge row u = side_operation (end_at system edge row).constant (num (get_or base u neg_inf))

-- the rows of one unknown of a list: the sources, the guards, and its own row
abbrev pub block_of : System → List Ext → List ℕ → ℕ → ℕ → ℕ → List Limit
block_of system base list offset edge u =
    sources_of system base list offset (edge_at system edge).from
    ++ (guards_of system list offset edge ++ own_of system base list offset edge (u % length system.template) u ∷ [])

-- the number of the edge that is picked for an unknown
abbrev pub edge_for : List (Option ℕ) → ℕ → ℕ
edge_for pick u = edge_of (get_or pick u None)

-- how many columns the words of an edge take: two for each start value and each free value
abbrev pub split_width : System → ℕ → ℕ
split_width system edge = width (length system.flow.names) (edge_at system edge).actions
    + width (length system.flow.names) (edge_at system edge).actions

-- the rows of unknowns of a list in order, the columns of the first from an offset on
abbrev pub blocks_from : System → List (Option ℕ) → List Ext → List ℕ → ℕ → List ℕ → List Limit
blocks_from system pick base list offset [] = []
blocks_from system pick base list offset (u ∷ rest) =
    block_of system base list offset (edge_for pick u) u ++ blocks_from system pick base list
    (offset + split_width system (edge_for pick u)) rest

-- how many columns their words take
abbrev pub split_columns : System → List (Option ℕ) → List ℕ → ℕ
split_columns system pick [] = 0
split_columns system pick (u ∷ rest) = split_width system (edge_for pick u) + split_columns system pick rest

-- the operations of the sides of own rows, in the order of the list: each end value's constant minus the bound
abbrev pub side_operations : System → List (Option ℕ) → List Ext → List ℕ → List Operation
side_operations system pick base list = map (λ u. side_of system base (edge_for pick u) (u % length system.template) u) list
