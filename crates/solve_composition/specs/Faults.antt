-- What is answered where a composition is refused.
use Rattle.std.specs.Prelude.{◌≡◌, ℕ, List, Some, Result}
use Rattle.base_fractions.specs.Operation.{Operation, operation_of}
use Rattle.flow_systems.specs.declared.fault.Fault.{Fault}
use Rattle.flow_systems.specs.declared.fault.Fault.TheVariants.{Wide, NoMemory}
use Rattle.flow_systems.specs.declared.spot.Site.TheVariants.{Compose}
use Rattle.flow_systems.specs.declared.spot.Spot.{Spot}
use Rattle.flow_systems.specs.Equations.{Equations}
use Rattle.flow_systems.specs.Faults.{OperationFault, AnswersBy}
use Rattle.solve_composition.specs.Operations.{wide_composition}

-- the first wide operation of a system's composition, outside rounds and at its edge
abbrev pub IsPathFault : Equations → Fault Spot → Type 0
IsPathFault system (Wide spot) =
    (spot.round ≡ 0) × ((edge : ℕ) × (spot.site ≡ Compose edge) × (wide_composition system ≡ Some (edge, operation_of (λ q. q) spot.wide)))
IsPathFault system NoMemory = Unit {0}

-- ---- on the way
-- this value where none of the operations is wide, and the first that is where one is
abbrev pub Composes : {A : Type 0} → A → List Operation → Result A OperationFault → Type 0
Composes value operations result = AnswersBy (λ r. r ≡ value) operations result
