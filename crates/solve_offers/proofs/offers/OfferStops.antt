-- Stops of offers.
use Rattle.std.proofs.Common.{◌≡◌, ℕ, ◌<◌, List, length, sym, subst}
use Rattle.base_numbers.specs.Extended.{Ext as Extended, pos_inf, ◌<ᴱ◌}
use Rattle.flow_systems.specs.declared.fault.Fault.{Fault}
use Rattle.flow_systems.specs.declared.fault.Fault.TheVariants.{Wide, NoMemory}
use Rattle.flow_systems.specs.declared.spot.Spot.{Spot}
use Rattle.flow_systems.specs.declared.system.System.{System}
use Rattle.solve_offers.specs.AtBounds.{vector_at, edge_at}
use Rattle.solve_offers.specs.Stops.{IsSolvedStop, IsOfferStop}

module _ (system : System) (bounds : List Extended) (row round : ℕ) (is_row : row < length system.template) where
  -- a stop at an edge that leads to a bound below +∞ is one of an offer
  offer_stop : (edge : ℕ) → edge < length system.flow.edges → vector_at system bounds (edge_at system edge).to row <ᴱ pos_inf →
      (stop : Fault Spot) → IsSolvedStop system bounds edge row round stop → IsOfferStop system bounds round stop
  offer_stop edge is_edge limited (Wide spot) s =
      record { edge = edge; is_edge = is_edge; row = row; is_row = is_row; limited = limited; solved = s }
  offer_stop edge is_edge limited NoMemory s = tt

  -- so is one at an edge into a point with such a bound
  pub stop_into : (point : ℕ) → vector_at system bounds point row <ᴱ pos_inf → (edge : ℕ) → edge < length system.flow.edges →
      (edge_at system edge).to ≡ point → (stop : Fault Spot) → IsSolvedStop system bounds edge row round stop
      → IsOfferStop system bounds round stop
  stop_into point limited edge is_edge to =
      offer_stop edge is_edge (subst (λ p. vector_at system bounds p row <ᴱ pos_inf) (sym to) limited)
