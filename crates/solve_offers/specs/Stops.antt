-- Why an improvement stops.
use Rattle.std.specs.Prelude.{◌≡◌, ℕ, ◌<◌, List, length}
use Rattle.base_numbers.specs.Extended.{Ext as Extended, pos_inf, ◌<ᴱ◌}
use Rattle.flow_systems.specs.declared.fault.Fault.{Fault}
use Rattle.flow_systems.specs.declared.fault.Fault.TheVariants.{Wide, NoMemory}
use Rattle.flow_systems.specs.declared.spot.Part.{Part}
use Rattle.flow_systems.specs.declared.spot.Spot.{Spot}
use Rattle.flow_systems.specs.declared.spot.Site.TheVariants.{Offer}
use Rattle.flow_systems.specs.declared.system.System.{System}
use Rattle.solve_offers.specs.AtBounds.{vector_at, edge_at, IsWidePart}

-- the first wide operation of a part of an edge's and a row's problem, in this round and at the site of the offer of that edge and row
pub record IsSolvedSpot (system : System) (bounds : List Extended) (edge row number : ℕ) (spot : Spot) : Type 0 where
  pub round : spot.round ≡ number
  pub part : Part
  pub site : spot.site ≡ Offer edge row part
  pub wide : IsWidePart system bounds edge row part spot.wide

-- such a spot, or want of memory
abbrev pub IsSolvedStop : System → List Extended → ℕ → ℕ → ℕ → Fault Spot → Type 0
IsSolvedStop system bounds edge row round (Wide spot) = IsSolvedSpot system bounds edge row round spot
IsSolvedStop system bounds edge row round NoMemory = Unit {0}

-- a wide operation of an offer: such a spot of some edge and row of the system, where the row's bound at the edge's end is below +∞
pub record IsOfferSpot (system : System) (bounds : List Extended) (number : ℕ) (spot : Spot) : Type 0 where
  pub edge : ℕ
  pub is_edge : edge < length system.flow.edges
  pub row : ℕ
  pub is_row : row < length system.template
  pub limited : vector_at system bounds (edge_at system edge).to row <ᴱ pos_inf
  pub solved : IsSolvedSpot system bounds edge row number spot

-- such a spot, or want of memory
abbrev pub IsOfferStop : System → List Extended → ℕ → Fault Spot → Type 0
IsOfferStop system bounds round (Wide spot) = IsOfferSpot system bounds round spot
IsOfferStop system bounds round NoMemory = Unit {0}
