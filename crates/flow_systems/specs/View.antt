-- The equation systems and vectors that the types of the code stand for.
use Rattle.std.specs.Prelude.{◌≡◌, ℕ, ◌+◌, ◌*◌, ◌<◌, ℤ, List, [], length, get_or, map, flat_map}
use Rattle.std.specs.List.{range_with_len}
use Rattle.base_numbers.specs.Extended.{Ext, neg_inf}
use Rattle.flow_edges.specs.declared.edge.Edge.{Edge}
use Rattle.flow_systems.specs.declared.system.System.{System}
use Rattle.flow_systems.specs.Equations.{Equations, Vector}

-- the equation system of a flow and a template
abbrev pub equations_of : System → Equations
equations_of s = record { variables = length s.flow.names; points = length s.flow.points; edges = s.flow.edges; template = s.template }

-- the vector of a list of bounds, where the unknown of point p and row r has the number p * rows + r
abbrev pub vector_of : ℕ → List Ext → Vector
vector_of rows bounds p r = get_or bounds (p * rows + r) neg_inf

-- the vector of a list of bounds of a system
abbrev pub vector_at : System → List Ext → Vector
vector_at system bounds = vector_of (length system.template) bounds

-- there is one bound for each unknown of a system
abbrev pub IsVectorOf : System → List Ext → Type 0
IsVectorOf system bounds = length bounds ≡ length system.flow.points * length system.template

-- the edge of a number
abbrev pub edge_at : System → ℕ → Edge
edge_at system edge = get_or system.flow.edges edge (record { from = 0; to = 0; actions = [] })

-- the row of a number
abbrev pub row_at : System → ℕ → List ℤ
row_at system row = get_or system.template row []

-- the list of a vector's bounds, point after point
abbrev pub bounds_of : ℕ → ℕ → Vector → List Ext
bounds_of points rows v = flat_map (λ p. map (v p) (range_with_len 0 rows)) (range_with_len 0 points)

-- each vector is that of its list at every unknown, and each list of the right length is that of its vector
pub record IsListed (points rows : ℕ) : Type 0 where
  pub vector : (v : Vector) (p r : ℕ) → p < points → r < rows → vector_of rows (bounds_of points rows v) p r ≡ v p r
  pub count : (v : Vector) → length (bounds_of points rows v) ≡ points * rows
  pub list : (bounds : List Ext) → length bounds ≡ points * rows → bounds_of points rows (vector_of rows bounds) ≡ bounds

-- over any points and rows
abbrev pub VectorsAreLists : Type 0
VectorsAreLists = (points rows : ℕ) → IsListed points rows
