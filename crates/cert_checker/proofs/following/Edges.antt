-- What the edges of a flow have.
use Rattle.std.proofs.Common.{◌+◌, ◌≡◌, ℕ, ◌<◌, List, length, subst, arith}
use Rattle.std.specs.Prelude.{ℤ, Some, slice_get, IsTrue, nat_lt, ◌&&◌, nat_le}
use Rattle.std.proofs.lemmas.Bool.{ltb-true, leb-true}
use Rattle.std.proofs.lemmas.Option.{slice_get_within, get_or_from_slice_get}
use Rattle.flow_edges.specs.declared.graph.Flow.{Flow}
use Rattle.flow_edges.specs.declared.edge.Edge.{Edge}
use Rattle.flow_edges.specs.FlowLimits.{is_edge}
use Rattle.flow_templates.specs.Rows.{is_template}
use Rattle.flow_systems.proofs.Sizes.{both, flow_sizes}
use Rattle.flow_systems.proofs.trace_tests.Traced.{all_at}
use Rattle.flow_templates.specs.declared.limits.TheConstants.{MOST_ROWS}
use Rattle.lang_tree.specs.declared.limits.TheConstants.{MOST_HIDDEN}

-- an edge starts at a point
pub edge_from : (flow : Flow) (i : ℕ) (e : Edge) → slice_get flow.edges i ≡ Some e → e.from < length flow.points
edge_from flow i e f =
    let l = slice_get_within flow.edges i e f in
    let a = all_at (is_edge (length flow.names + MOST_HIDDEN) (length flow.points)) flow.edges i e (flow_sizes flow).edges l in
    let k : IsTrue (is_edge (length flow.names + MOST_HIDDEN) (length flow.points) e) =
    subst (λ x. IsTrue (is_edge (length flow.names + MOST_HIDDEN) (length flow.points) x)) (get_or_from_slice_get flow.edges i e e f) a in
    ltb-true e.from (length flow.points) (both (nat_lt e.from (length flow.points)) _ k).0

-- a template has a row
pub template_some : (template : List (List ℤ)) → IsTrue (is_template template) → 0 < length template
template_some template h =
    let a = both (nat_le 1 (length template) && nat_le (length template) MOST_ROWS) _ h in
    let b = both (nat_le 1 (length template)) (nat_le (length template) MOST_ROWS) a.0 in
    let k = leb-true 1 (length template) b.0 in
    omega (arith, k)
