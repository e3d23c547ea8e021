-- Which items can be followed at a later vector.
use Rattle.flow_systems.specs.Equations.{Equations}
use Rattle.theory_validity.specs.Steps.{Item, Kind, Placed}
use Rattle.theory_validity.specs.Faults.{SecondSized}

-- the unknown and the edge are there, and a second trace has the edge's lengths
pub record IsUsable (kind : Kind) (system : Equations) (item : Item) : Type 0 where
  pub placed : Placed system item
  pub sized : SecondSized kind system item
