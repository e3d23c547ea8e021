-- The transformer of an edge and a row at a vector, by what it means: a number that no run along the edge exceeds, and the least such.
use Rattle.std.specs.Prelude.{◌≡◌, ℕ, ℤ, List, Some, slice_get}
use Rattle.base_numbers.specs.Extended.{Ext, fin, ◌≤ᴱ◌}
use Rattle.flow_edges.specs.declared.edge.Edge.{Edge}
use Rattle.flow_systems.specs.States.{RationalState, dotℚ}
use Rattle.flow_systems.specs.Equations.{Equations, Vector, Transition}

-- every transition along the edge ends with at most this value of the row
abbrev pub IsUpper : Equations → Vector → Edge → List ℤ → Ext → Type 0
IsUpper system v edge row number = (x y : RationalState) → Transition system v edge x y → fin (dotℚ row y) ≤ᴱ number

-- the least extended number that is at least every end value
pub record IsTransformer (system : Equations) (v : Vector) (edge : Edge) (row : List ℤ) (number : Ext) : Type 0 where
  pub upper : IsUpper system v edge row number
  pub least : (other : Ext) → IsUpper system v edge row other → number ≤ᴱ other

-- the transformer of the edge and the row of these numbers
pub record IsTransformerOf (system : Equations) (v : Vector) (k r : ℕ) (number : Ext) : Type 0 where
  pub edge : Edge
  pub is_edge : slice_get system.edges k ≡ Some edge
  pub row : List ℤ
  pub is_row : slice_get system.template r ≡ Some row
  pub is_transformer : IsTransformer system v edge row number
