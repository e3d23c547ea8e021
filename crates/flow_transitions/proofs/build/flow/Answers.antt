use Rattle.std.proofs.Common.{◌∙◌, ◌≤◌, inr, length, map, refl, sym, ap, ap₂, subst, arith}
use Rattle.std.specs.Prelude.{IsTrue, position}
use Rattle.std.proofs.lemmas.List.{length-map}
use Rattle.flow_edges.specs.Trails.{kept_edge}
use Rattle.flow_transitions.specs.Choices.{edges_of}
use Rattle.flow_transitions.specs.declared.limits.TheConstants.{MOST_EDGES}
use Rattle.flow_transitions.specs.AutoFaults.{cases_fault, is_long}
use Rattle.flow_transitions.specs.Counted.{have_room_along}
use Rattle.flow_transitions.proofs.counted.Grouped.{total}
use Rattle.flow_transitions.proofs.made.Faulted.{many_edges, long_edge, no_fault, nothing_cut}
use Rattle.flow_transitions.proofs.made.Within.{limits, edges_room, flow_within}
use Rattle.flow_transitions.proofs.build.flow.Goals as goal

pub edge_count-requires : goal.edge_count-requires
edge_count-requires c =
    let a = c.args.auto.now in
    subst (λ es. IsTrue (have_room_along es)) (sym c.as_slice.ensures)
    (edges_room (length a.names) (length a.points) a.edges (limits a.names a.points a.edges a.within_limits).along)

pub edges_of-requires-clause-room : goal.edges_of-requires-clause-room
edges_of-requires-clause-room c =
    let a = c.args.auto.now in
    subst (λ es. IsTrue (have_room_along es)) (sym c.as_slice-3.ensures)
    (edges_room (length a.names) (length a.points) a.edges (limits a.names a.points a.edges a.within_limits).along)

pub returns-then-count-gt-MOST_EDGES-clause-fault : goal.returns-then-count-gt-MOST_EDGES-clause-fault
returns-then-count-gt-MOST_EDGES-clause-fault c =
    let a = c.args.auto.now in
    let narrow = sym (ap cases_fault c.as_slice.ensures) ∙ c.in_ok-count.ensures.narrow in
    let count = total (length a.names) (length a.points) a.edges c.as_slice.result.now c.in_ok-count.count
    (limits a.names a.points a.edges a.within_limits).along c.as_slice.ensures c.in_ok-count.ensures.count in
    inr (many_edges (length a.points) a.edges narrow (omega arith))

pub long_edge-requires : goal.long_edge-requires
long_edge-requires c =
    let a = c.args.auto.now in
    let count = total (length a.names) (length a.points) a.edges c.as_slice.result.now c.in_ok-count.count
    (limits a.names a.points a.edges a.within_limits).along c.as_slice.ensures c.in_ok-count.ensures.count in
    let made = c.in_ok-edges.ensures ∙ ap₂ (λ ps es. map kept_edge (edges_of (length ps) es)) c.as_slice-2.ensures c.as_slice-3.ensures in
    let few : length (edges_of (length a.points) a.edges) ≤ MOST_EDGES = omega arith in
    omega (arith, ap length (c.deref.ensures.value ∙ made), length-map (edges_of (length a.points) a.edges) kept_edge)

pub returns-in-Some-clause-fault : goal.returns-in-Some-clause-fault
returns-in-Some-clause-fault c =
    let a = c.args.auto.now in
    let count = total (length a.names) (length a.points) a.edges c.as_slice.result.now c.in_ok-count.count
    (limits a.names a.points a.edges a.within_limits).along c.as_slice.ensures c.in_ok-count.ensures.count in
    let made = c.in_ok-edges.ensures ∙ ap₂ (λ ps es. map kept_edge (edges_of (length ps) es)) c.as_slice-2.ensures c.as_slice-3.ensures in
    let narrow = sym (ap cases_fault c.as_slice.ensures) ∙ c.in_ok-count.ensures.narrow in
    let few : length (edges_of (length a.points) a.edges) ≤ MOST_EDGES = omega arith in
    let found = ap (position is_long) (sym (c.deref.ensures.value ∙ made)) ∙ sym c.long_edge.ensures ∙ c.in-Some.is in
    inr (long_edge (length a.points) a.edges c.in-Some.edge narrow few found)

pub invariant_of-result : goal.invariant_of-result
invariant_of-result c =
    let a = c.args.auto.now in
    let count = total (length a.names) (length a.points) a.edges c.as_slice.result.now c.in_ok-count.count
    (limits a.names a.points a.edges a.within_limits).along c.as_slice.ensures c.in_ok-count.ensures.count in
    let made = c.in_ok-edges.ensures ∙ ap₂ (λ ps es. map kept_edge (edges_of (length ps) es)) c.as_slice-2.ensures c.as_slice-3.ensures in
    let few : length (edges_of (length a.points) a.edges) ≤ MOST_EDGES = omega arith in
    let found = ap (position is_long) (sym (c.deref.ensures.value ∙ made)) ∙ sym c.long_edge.ensures ∙ c.in_default.is in
    let same = c.in_ok-names.ensures in
    let points_same = c.in_ok-points.ensures in
    let edges_same = c.new.ensures ∙ made in
    let brief : length (map kept_edge (edges_of (length a.points) a.edges)) ≤ MOST_EDGES =
    omega (arith, length-map (edges_of (length a.points) a.edges) kept_edge) in
    record {
      within_limits = rw (same, points_same, edges_same) (flow_within a.names a.points a.edges
          (map kept_edge (edges_of (length a.points) a.edges)) a.within_limits refl brief found);
    }

pub returns-clause-edges : goal.returns-clause-edges
returns-clause-edges c =
    let a = c.args.auto.now in
    let made = c.in_ok-edges.ensures ∙ ap₂ (λ ps es. map kept_edge (edges_of (length ps) es)) c.as_slice-2.ensures c.as_slice-3.ensures in
    let found = ap (position is_long) (sym (c.deref.ensures.value ∙ made)) ∙ sym c.long_edge.ensures ∙ c.in_default.is in
    c.new.ensures ∙ made ∙ nothing_cut (edges_of (length a.points) a.edges) found

pub returns-clause-within : goal.returns-clause-within
returns-clause-within c =
    let a = c.args.auto.now in
    let count = total (length a.names) (length a.points) a.edges c.as_slice.result.now c.in_ok-count.count
    (limits a.names a.points a.edges a.within_limits).along c.as_slice.ensures c.in_ok-count.ensures.count in
    let made = c.in_ok-edges.ensures ∙ ap₂ (λ ps es. map kept_edge (edges_of (length ps) es)) c.as_slice-2.ensures c.as_slice-3.ensures in
    let narrow = sym (ap cases_fault c.as_slice.ensures) ∙ c.in_ok-count.ensures.narrow in
    let few : length (edges_of (length a.points) a.edges) ≤ MOST_EDGES = omega arith in
    let found = ap (position is_long) (sym (c.deref.ensures.value ∙ made)) ∙ sym c.long_edge.ensures ∙ c.in_default.is in
    no_fault (length a.points) a.edges narrow few found
