-- Listed unknowns by their numbers.
use Rattle.std.specs.Prelude.{◌≡◌, ℕ, ◌+◌, ◌*◌, ◌/◌, ◌%◌, ◌<◌, ◌≤◌, List, [], ◌∷◌, length, get_or, map, Option, Some, None}
use Rattle.flow_systems.specs.declared.system.System.{System}
use Rattle.flow_systems.specs.View.{equations_of}
use Rattle.theory_transformers.specs.JointProblems.{Listed, picked}
use Rattle.solve_joint.specs.declared.node.Node.{Node}

-- the number of an edge, if there is one
abbrev pub edge_of : Option ℕ → ℕ
edge_of None = 0
edge_of (Some e) = e

-- the unknown of a number, with its picked edge: number u is row u mod rows of point u / rows
abbrev pub listed_of : ℕ → List (Option ℕ) → ℕ → Listed
listed_of rows pick u = record { point = u / rows; row = u % rows; edge = edge_of (get_or pick u None) }

-- and the number of an unknown
abbrev pub number_of : ℕ → Listed → ℕ
number_of rows x = x.point * rows + x.row

-- the unknowns of a list of numbers
abbrev pub all_listed : System → List (Option ℕ) → List ℕ → List Listed
all_listed system pick list = map (listed_of (length system.template) pick) list

-- the numbers rise, from a first one on
abbrev pub Rises : ℕ → List ℕ → Type 0
Rises from [] = Unit {0}
Rises from (u ∷ list) = (from ≤ u) × Rises (u + 1) list

-- the unknown is one of the system, and an edge of the system is picked for it
pub record IsPicked (system : System) (pick : List (Option ℕ)) (u : ℕ) : Type 0 where
  pub in_range : u < length system.flow.points * length system.template
  pub edge : ℕ
  pub picks : get_or pick u None ≡ Some edge
  pub is_edge : edge < length system.flow.edges

abbrev pub ArePicked : System → List (Option ℕ) → List ℕ → Type 0
ArePicked system pick [] = Unit {0}
ArePicked system pick (u ∷ list) = IsPicked system pick u × ArePicked system pick list

-- ---- on the way
-- the source of an unknown's picked edge
abbrev pub source_of : System → List (Option ℕ) → ℕ → ℕ
source_of system pick u = (picked (equations_of system) (listed_of (length system.template) pick u)).from

-- an unknown with its point and the source of its picked edge
abbrev pub node_of : System → List (Option ℕ) → ℕ → Node
node_of system pick u = record { unknown = u; point = u / length system.template; source = source_of system pick u }

-- those of a list
abbrev pub nodes_of : System → List (Option ℕ) → List ℕ → List Node
nodes_of system pick list = map (node_of system pick) list
