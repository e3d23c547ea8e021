-- Why a growth stops.
use Rattle.std.specs.Prelude.{◌≡◌, ◌⊎◌, ℕ, List}
use Rattle.base_facts.specs.Elements.{In}
use Rattle.base_numbers.specs.Rational.{ℚ}
use Rattle.base_numbers.specs.Extended.{pos_inf, ◌<ᴱ◌}
use Rattle.base_fractions.specs.Fits.{long_limit}
use Rattle.base_fractions.specs.Operation.{first_wide, operation_of}
use Rattle.std.specs.Prelude.{Some}
use Rattle.flow_systems.specs.Equations.{Equations}
use Rattle.flow_systems.specs.declared.spot.Part.{Part}
use Rattle.flow_systems.specs.declared.spot.PartFault.TheVariants.{Wide as WideIn}
use Rattle.flow_systems.specs.declared.spot.Spot.{Spot}
use Rattle.flow_systems.specs.declared.spot.Site.TheVariants.{Growth, Raise}
use Rattle.theory_validity.specs.Steps.{edge_of, row_of}
use Rattle.theory_strategy.specs.Picks.{value_at}
use Rattle.theory_transformers.specs.EdgeProblems.{transformer}
use Rattle.solve_composition.specs.declared.value.Value.{Value}
use Rattle.solve_transformer.specs.Values.{IsValue, IsOperatorFault}
use Rattle.solve_raise.specs.Raises.{raise_operations}
use Rattle.flow_systems.specs.declared.fault.Fault.{Fault}
use Rattle.flow_systems.specs.declared.fault.Fault.TheVariants.{Wide, NoMemory}
use Rattle.solve_rounds.specs.GrowthTests.{Test}

-- the first wide operation of a part of the problem of the tested unknown's edge and row, at the vector of the test, where the
-- unknown's bound is below +∞
pub record IsTestSpot (system : Equations) (test : Test) (spot : Spot) : Type 0 where
  pub limited : test.vector test.unknown.point test.unknown.row <ᴱ pos_inf
  pub part : Part
  pub site : spot.site ≡ Growth test.unknown.edge test.unknown.row part
  pub wide : IsOperatorFault system test.vector (edge_of system test.unknown) (row_of system test.unknown) (WideIn part spot.wide)

-- the first wide operation of the raise of the tested unknown, whose transformer exceeds its bound at the vector of the test
pub record IsRaiseSpot (system : Equations) (test : Test) (spot : Spot) : Type 0 where
  pub site : spot.site ≡ Raise test.raises
  pub exceeds : test.vector test.unknown.point test.unknown.row <ᴱ value_at system (transformer system) test.vector test.unknown
  pub value : Value
  pub is_value : IsValue system test.vector (edge_of system test.unknown) (row_of system test.unknown) value
  pub wide : first_wide long_limit (raise_operations system test.unknown (test.vector test.unknown.point test.unknown.row) value)
      ≡ Some (operation_of (λ (q : ℚ). q) spot.wide)

-- a wide operation of one of the tests or of the raise that follows it, in this round
pub record IsGrowthSpot (system : Equations) (tests : List Test) (number : ℕ) (spot : Spot) : Type 0 where
  pub round : spot.round ≡ number
  pub test : Test
  pub listed : In tests test
  pub formula : IsTestSpot system test spot ⊎ IsRaiseSpot system test spot

-- such a spot, or want of memory
abbrev pub IsStopIn : Equations → List Test → ℕ → Fault Spot → Type 0
IsStopIn system tests round (Wide spot) = IsGrowthSpot system tests round spot
IsStopIn system tests round NoMemory = Unit {0}
