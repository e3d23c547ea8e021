-- The edges out of each point.
use Rattle.std.specs.Prelude.{◌≡◌, ℕ, ◌<◌, List, [], length, get_or}
use Rattle.base_facts.specs.Elements.{In}
use Rattle.flow_systems.specs.declared.system.System.{System}
use Rattle.flow_systems.specs.View.{edge_at}

-- there is a list for each point, each number in one is that of an edge that starts there, and each edge is listed where it starts
pub record AreLeaving (system : System) (lists : List (List ℕ)) : Type 0 where
  pub size : length lists ≡ length system.flow.points
  pub within : (p number : ℕ) → In (get_or lists p []) number → number < length system.flow.edges
  pub starts : (p number : ℕ) → In (get_or lists p []) number → (edge_at system number).from ≡ p
  pub listed : (edge : ℕ) → edge < length system.flow.edges → In (get_or lists (edge_at system edge).from []) edge
