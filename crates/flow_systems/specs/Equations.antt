-- Equation systems, and the vectors that solve them.
use Rattle.std.specs.Prelude.{◌≡◌, ℕ, ◌<◌, ℤ, List, length, slice_get, Some, Contains}
use Rattle.base_numbers.specs.Extended.{Ext, fin, pos_inf, ◌≤ᴱ◌, ◌<ᴱ◌}
use Rattle.flow_edges.specs.declared.edge.Edge.{Edge}
use Rattle.flow_systems.specs.States.{RationalState, dotℚ, Traces}

-- an equation system: numbers of variables and points, edges between the points, and the rows of a template
pub record Equations : Type 0 where
  pub variables : ℕ
  pub points : ℕ
  pub edges : List Edge
  pub template : List (List ℤ)

-- a vector gives each point and row an extended number
abbrev pub Vector : Type 0
Vector = ℕ → ℕ → Ext

-- a state fits a vector at a point where every row's value is at most its bound there
abbrev pub Fits : Equations → Vector → ℕ → RationalState → Type 0
Fits system v p x = (r : ℕ) (row : List ℤ) → slice_get system.template r ≡ Some row → fin (dotℚ row x) ≤ᴱ v p r

-- a trace along an edge whose first state fits the vector at the edge's source
pub record Transition (system : Equations) (v : Vector) (edge : Edge) (x y : RationalState) : Type 0 where
  pub listed : Contains system.edges edge
  pub starts : length x ≡ system.variables
  pub fits : Fits system v edge.from x
  pub trace : Traces edge.actions x y

-- every bound at the entry is +inf, and where a transition ends the state fits
pub record PostSolution (system : Equations) (v : Vector) : Type 0 where
  pub entry : (r : ℕ) → r < length system.template → v 0 r ≡ pos_inf
  pub closed : (edge : Edge) (x y : RationalState) → Transition system v edge x y → Fits system v edge.to y

-- some transition into the point ends with a value of the row above the number
pub record Exceeds (system : Equations) (v : Vector) (p : ℕ) (row : List ℤ) (number : Ext) : Type 0 where
  pub edge : Edge
  pub before : RationalState
  pub after : RationalState
  pub into : edge.to ≡ p
  pub transition : Transition system v edge before after
  pub exceeds : number <ᴱ fin (dotℚ row after)

-- a post-solution where outside the entry every number below a bound is exceeded
pub record Solves (system : Equations) (v : Vector) : Type 0 where
  pub post : PostSolution system v
  pub supported : (p r : ℕ) (row : List ℤ) (number : Ext) → 0 < p → p < system.points → slice_get system.template r ≡ Some row →
      number <ᴱ v p r → Exceeds system v p row number

-- one vector is at most another at every unknown
abbrev pub IsBelow : Equations → Vector → Vector → Type 0
IsBelow system v w = (p r : ℕ) → p < system.points → r < length system.template → v p r ≤ᴱ w p r

-- it solves the system, and is at most every post-solution
pub record Least (system : Equations) (v : Vector) : Type 0 where
  pub solves : Solves system v
  pub below : (w : Vector) → PostSolution system w → IsBelow system v w
