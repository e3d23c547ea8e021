-- What solving the problem of an edge and a row finds.
use Rattle.std.specs.Prelude.{◌≡◌, ℕ, List}
use Rattle.base_numbers.specs.Extended.{Ext as Extended}
use Rattle.flow_systems.specs.View.{equations_of}
use Rattle.flow_systems.specs.declared.system.System.{System}
use Rattle.theory_validity.specs.Certificates.{Evidence}
use Rattle.cert_types.specs.Certificates.{evidence_of}
use Rattle.theory_rounds.specs.Made.{exact_upper}
use Rattle.solve_composition.specs.declared.value.Value.{Value}
use Rattle.solve_composition.specs.declared.value.Value.TheVariants.{Unreached, Empty, Best, Unbounded}
use Rattle.solve_offers.specs.declared.found.Found.{Found}
use Rattle.solve_offers.specs.AtBounds.{vector_at, edge_at, row_at, IsTransformerAt}

-- the evidence that a value shows; an unbounded one shows none
abbrev pub upper_read : Value → Evidence
upper_read (Unreached row) = Evidence.Unreached row
upper_read (Empty rows guards) = Evidence.Empty rows guards
upper_read (Best value trace rows guards) = Evidence.Bound rows guards
upper_read (Unbounded trace direction) = Evidence.Unreached 0

-- the transformer of an edge and a row, and the evidence that the outcome of its problem gives
pub record IsFound (system : System) (bounds : List Extended) (edge row : ℕ) (found : Found) : Type 0 where
  pub value : IsTransformerAt system bounds edge row found.value
  pub upper : evidence_of found.upper ≡ exact_upper (equations_of system) (vector_at system bounds) (edge_at system edge)
      (row_at system row)
