-- How many names, points, edges and rows there are at most.
use Rattle.std.proofs.Common.{◌+◌, ◌≤◌, Bool, true, false, ◌&&◌, List, length, refl, sym, true≢false}
use Rattle.std.specs.Prelude.{IsTrue, nat_le, ℤ}
use Rattle.std.specs.List.{list_all}
use Rattle.std.proofs.lemmas.Bool.{leb-true}
use Rattle.flow_edges.specs.declared.graph.Flow.{Flow}
use Rattle.flow_edges.specs.FlowLimits.{begins_with_entry, has_line, is_edge}
use Rattle.flow_templates.specs.Rows.{is_template}
use Rattle.flow_templates.specs.declared.limits.TheConstants.{MOST_ROWS}
use Rattle.flow_edges.specs.declared.limits.TheConstants.{MOST_POINTS, MOST_EDGES}
use Rattle.lang_tree.specs.declared.limits.TheConstants.{MOST_VARIABLES, MOST_HIDDEN}

-- two tests that hold together each hold
pub both : (a b : Bool) → IsTrue (a && b) → IsTrue a × IsTrue b
both true true e = (refl, refl)
both true false e = absurd (true≢false (sym e))
both false b e = absurd (true≢false (sym e))

-- the sizes of a flow
pub record FlowSizes (flow : Flow) : Type 0 where
  -- there are at most as many names as allowed
  pub names : length flow.names ≤ MOST_VARIABLES
  -- there are at least two points
  pub two_points : 2 ≤ length flow.points
  -- there are at most as many points as allowed
  pub points : length flow.points ≤ MOST_POINTS
  -- each edge is within the limits
  pub edges : IsTrue (list_all (is_edge (length flow.names + MOST_HIDDEN) (length flow.points)) flow.edges)

-- the sizes of each flow are within the limits
pub flow_sizes : (flow : Flow) → FlowSizes flow
flow_sizes flow =
    let a = both (nat_le 1 (length flow.names) && nat_le (length flow.names) MOST_VARIABLES) _ flow.within_limits in
    let b = both (nat_le 2 (length flow.points) && nat_le (length flow.points) MOST_POINTS) _ a.1 in
    let c = both (begins_with_entry flow.points && list_all has_line flow.points) _ b.1 in
    let n = both (nat_le 1 (length flow.names)) (nat_le (length flow.names) MOST_VARIABLES) a.0 in
    let p = both (nat_le 2 (length flow.points)) (nat_le (length flow.points) MOST_POINTS) b.0 in
    let e = both (nat_le (length flow.edges) MOST_EDGES)
    (list_all (is_edge (length flow.names + MOST_HIDDEN) (length flow.points)) flow.edges) c.1 in
    record {
      names = leb-true (length flow.names) MOST_VARIABLES n.1;
      two_points = leb-true 2 (length flow.points) p.0;
      points =
          leb-true (length flow.points) MOST_POINTS p.1;
      edges = e.1;
    }

-- a template within the limits has at most as many rows as allowed
pub template_size : (template : List (List ℤ)) → IsTrue (is_template template) → length template ≤ MOST_ROWS
template_size template h =
    let a = both (nat_le 1 (length template) && nat_le (length template) MOST_ROWS) _ h in
    let b = both (nat_le 1 (length template)) (nat_le (length template) MOST_ROWS) a.0 in
    leb-true (length template) MOST_ROWS b.1
