-- The edges of a system end at its points, and are few.
use Rattle.std.proofs.Common.{◌+◌, ℕ, ◌≤◌, ◌&&◌, List, [], ◌∷◌, length, ⊎_elim, subst, arith}
use Rattle.std.specs.Prelude.{IsTrue, nat_lt, nat_le}
use Rattle.std.specs.List.{list_all}
use Rattle.std.proofs.lemmas.Bool.{ltb-true, leb-true}
use Rattle.base_facts.specs.Elements.{In}
use Rattle.flow_edges.specs.declared.edge.Edge.{Edge}
use Rattle.flow_edges.specs.declared.graph.Flow.{Flow}
use Rattle.flow_edges.specs.FlowLimits.{begins_with_entry, has_line, is_action, is_edge}
use Rattle.flow_systems.specs.declared.system.System.{System}
use Rattle.flow_systems.specs.View.{equations_of}
use Rattle.flow_systems.proofs.Sizes.{both, flow_sizes}
use Rattle.theory_validity.specs.Certificates.{PointsInRange}
use Rattle.theory_validity.proofs.certificates.Needs.{in_of_contains}
use Rattle.flow_edges.specs.declared.limits.TheConstants.{MOST_POINTS, MOST_EDGES, MOST_ACTIONS}
use Rattle.lang_tree.specs.declared.limits.TheConstants.{MOST_VARIABLES, MOST_HIDDEN}

edge_passes : (n points : ℕ) (edges : List Edge) → IsTrue (list_all (is_edge n points) edges) → (edge : Edge) → In edges edge
    → IsTrue (is_edge n points edge)
edge_passes n points [] h edge m = absurd m
edge_passes n points (first ∷ edges) h edge m =
    let b = both (is_edge n points first) (list_all (is_edge n points) edges) h in
    ⊎_elim (λ e. subst (λ x. IsTrue (is_edge n points x)) e b.0) (λ k. edge_passes n points edges b.1 edge k) m

-- the edges of a system end at its points
pub points_in_range : (system : System) → PointsInRange (equations_of system)
points_in_range system =
    let sizes = flow_sizes system.flow in
    record {
      entry = (let two = sizes.two_points in omega arith);
      ends = λ edge c.
          let n = length system.flow.names + MOST_HIDDEN in
          let points = length system.flow.points in
          let a = both (nat_lt edge.from points) (nat_lt 0 edge.to && (nat_lt edge.to points
          && (nat_le (length edge.actions) MOST_ACTIONS && list_all (is_action n) edge.actions)))
          (edge_passes n points system.flow.edges sizes.edges edge (in_of_contains system.flow.edges edge c)) in
          let b = both (nat_lt 0 edge.to) (nat_lt edge.to points && (nat_le (length edge.actions) MOST_ACTIONS
          && list_all (is_action n) edge.actions)) a.1 in
          let d = both (nat_lt edge.to points) (nat_le (length edge.actions) MOST_ACTIONS && list_all (is_action n) edge.actions) b.1 in
          ltb-true edge.to points d.0;
    }

-- a system has few edges
pub few_edges : (flow : Flow) → length flow.edges ≤ MOST_EDGES
few_edges flow =
    let a = both (nat_le 1 (length flow.names) && nat_le (length flow.names) MOST_VARIABLES) _ flow.within_limits in
    let b = both (nat_le 2 (length flow.points) && nat_le (length flow.points) MOST_POINTS) _ a.1 in
    let c = both (begins_with_entry flow.points && list_all has_line flow.points) _ b.1 in
    let n = length flow.names + MOST_HIDDEN in
    let e = both (nat_le (length flow.edges) MOST_EDGES) (list_all (is_edge n (length flow.points)) flow.edges) c.1 in
    leb-true (length flow.edges) MOST_EDGES e.0
