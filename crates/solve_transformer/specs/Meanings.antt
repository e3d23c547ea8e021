-- What the value of a transformer means.
use Rattle.std.specs.Prelude.{◌≡◌, ◌<◌, ℤ, List, length, Result, IfOk, IfErr, OnOk}
use Rattle.base_numbers.specs.Rational.{ℚ}
use Rattle.base_numbers.specs.Extended.{neg_inf, fin}
use Rattle.flow_edges.specs.declared.edge.Edge.{Edge}
use Rattle.flow_systems.specs.Equations.{Equations, Vector}
use Rattle.flow_systems.specs.declared.spot.PartFault.{PartFault}
use Rattle.flow_systems.specs.declared.trace.Trace.{Trace}
use Rattle.theory_validity.specs.Steps.{Runs, end_value}
use Rattle.theory_validity.specs.Certificates.{BoundPasses, EmptyPasses}
use Rattle.theory_validity.specs.Transformers.{Unlimited}
use Rattle.theory_transformers.specs.EdgeProblems.{transformer}
use Rattle.solve_composition.specs.Value.{number_of, word_of}
use Rattle.solve_composition.specs.declared.value.Value.{Value}
use Rattle.solve_composition.specs.declared.value.Value.TheVariants.{Unreached, Empty, Best, Unbounded}
use Rattle.solve_transformer.specs.Values.{IsValue, NoneWide, IsOperatorFault}

-- the trace runs at the vector and ends with the value, and the multipliers bound it
pub record IsBestEvidence (system : Equations) (z : Vector) (edge : Edge) (row : List ℤ) (value : ℚ) (trace : Trace)
    (rows guards : List ℚ) : Type 0 where
  pub runs : Runs system z edge (word_of trace)
  pub reaches : end_value system edge row (word_of trace) ≡ value
  pub bounds : BoundPasses system z edge row (fin value) rows guards

-- the trace runs at the vector, and along the direction it goes on running with values as large as wanted
pub record IsUnboundedEvidence (system : Equations) (z : Vector) (edge : Edge) (row : List ℤ) (trace direction : Trace) : Type 0 where
  pub unlimited : Unlimited system z edge row
  pub word : unlimited.word ≡ word_of trace
  pub along : unlimited.direction ≡ word_of direction

-- a row at -inf, multipliers that contradict one another, a trace that reaches a bound, or a trace and a direction
abbrev pub HasEvidence : Equations → Vector → Edge → List ℤ → Value → Type 0
HasEvidence system z edge row (Unreached r) = (r < length system.template) × (z edge.from r ≡ neg_inf)
HasEvidence system z edge row (Empty rows guards) = EmptyPasses system z edge rows guards
HasEvidence system z edge row (Best value trace rows guards) = IsBestEvidence system z edge row value trace rows guards
HasEvidence system z edge row (Unbounded trace direction) = IsUnboundedEvidence system z edge row trace direction

-- ---- on the way
-- all that is said of the answer for an edge and a row at a vector
pub record Operates (system : Equations) (z : Vector) (edge : Edge) (row : List ℤ) (result : Result Value PartFault) : Type 0 where
  pub value : IfOk result (IsValue system z edge row)
  pub supremum : IfOk result (λ v. transformer system z edge row ≡ number_of v)
  pub evidence : IfOk result (HasEvidence system z edge row)
  pub fits : OnOk result (NoneWide system z edge row)
  pub refused : IfErr result (IsOperatorFault system z edge row)
