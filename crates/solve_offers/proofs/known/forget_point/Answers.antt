use Rattle.std.proofs.Common.{◌≡◌, ◌∙◌, ◌<◌, ℕ, [], length, get_or, sym, ap, subst, arith}
use Rattle.std.specs.Prelude.{slice_set, false}
use Rattle.std.proofs.lemmas.List.Elements.{Contains-get_or}
use Rattle.flow_systems.specs.declared.system.System.{System}
use Rattle.theory_validity.proofs.certificates.Needs.{in_of_contains}
use Rattle.solve_offers.specs.declared.known.Known.{Known}
use Rattle.solve_offers.specs.AtBounds.{edge_at}
use Rattle.solve_offers.specs.Known.{HasMarks, known_at}
use Rattle.solve_offers.proofs.at_bounds.Ranges.{edge_here, end_in_range}
use Rattle.solve_offers.proofs.known.Forgotten.{forgotten_none, forgotten_more, forgotten_all}
use Rattle.solve_offers.proofs.known.forget_point.Goals as goal

-- a number that is listed at a point is that of an edge
number_within : (system : System) (mark known : Known) (point place number end : ℕ) → HasMarks system known
    → known.outgoing ≡ mark.outgoing → end ≡ length (get_or mark.outgoing point []) → place < end
    → number ≡ get_or (get_or known.outgoing point []) place 0 → number < length system.flow.edges
number_within system mark known point place number end marks same count l is =
    let numbers = get_or known.outgoing point [] in
    let all = count ∙ ap (λ ls. length (get_or ls point [])) (sym same) in
    subst (λ n. n < length system.flow.edges) (sym is) (marks.leaving.within point (get_or numbers place 0)
    (in_of_contains numbers (get_or numbers place 0) (Contains-get_or numbers place 0 (omega (arith, l, all)))))

pub loop-place-init : goal.loop-place-init
loop-place-init c = forgotten_none c.args.system.now c.args.point c.args.known.now c.mark.new.self c.requires.entries c.requires.marks
    c.mark.ensures.values c.mark.ensures.settled c.mark.ensures.lists

pub forget_edge-requires-clause-edge : goal.forget_edge-requires-clause-edge
forget_edge-requires-clause-edge c =
    let so_far = c.loop-place.invariant in
    number_within c.args.system.now c.mark.new.self c.loop-place.known c.args.point c.loop-place.place c.edge_out-edge.result
    c.count_out-place-end.result so_far.marks (so_far.lists.1 ∙ sym c.mark.ensures.lists.1) c.count_out-place-end.ensures
    c.loop-place-test.true c.edge_out-edge.ensures

pub bounds-edges-edge : goal.bounds-edges-edge
bounds-edges-edge c =
    let so_far = c.loop-place.invariant in
    let all = ap (λ es. length es) c.as_slice-edges.ensures in
    let l = number_within c.args.system.now c.mark.new.self c.loop-place.known c.args.point c.loop-place.place c.edge_out-edge.result
    c.count_out-place-end.result so_far.marks (so_far.lists.1 ∙ sym c.mark.ensures.lists.1) c.count_out-place-end.ensures
    c.loop-place-test.true c.edge_out-edge.ensures in
    omega (arith, all, l)

pub bounds-edges-edge-in-loop-place : goal.bounds-edges-edge-in-loop-place
bounds-edges-edge-in-loop-place c =
    let so_far = c.loop-place.invariant in
    let all = ap (λ es. length es) c.as_slice-edges.ensures in
    let l = number_within c.args.system.now c.mark.new.self c.loop-place.known c.args.point c.loop-place.place c.edge_out-edge.result
    c.count_out-place-end.result so_far.marks (so_far.lists.1 ∙ sym c.mark.ensures.lists.1) c.count_out-place-end.ensures
    c.loop-place-test.true c.edge_out-edge.ensures in
    omega (arith, all, l)

pub mark-requires-in-loop-place : goal.mark-requires-in-loop-place
mark-requires-in-loop-place c =
    let system = c.args.system.now in
    let so_far = c.loop-place.invariant in
    let number = c.edge_out-edge.result in
    let edges = c.as_slice-edges.result.now in
    let all = ap (λ es. length es) c.as_slice-edges.ensures in
    let l = number_within system c.mark.new.self c.loop-place.known c.args.point c.loop-place.place number
    c.count_out-place-end.result so_far.marks (so_far.lists.1 ∙ sym c.mark.ensures.lists.1) c.count_out-place-end.ensures
    c.loop-place-test.true c.edge_out-edge.ensures in
    let here : edge_at system number ≡ c.index-edges-edge.result = edge_here system edges number c.index-edges-edge.result
    c.as_slice-edges.ensures (omega (arith, all, l)) c.index-edges-edge.is in
    let to = ap (λ (e : _). e.to) (sym c.index-edges-edge.is ∙ sym here) in
    let end = end_in_range system number l in
    let size = so_far.marks.size in
    let same = ap (λ ms. length ms) c.forget_edge.ensures.marks.0 in
    omega (arith, to, end, size, same)

pub loop-place-preserved : goal.loop-place-preserved
loop-place-preserved c =
    let system = c.args.system.now in
    let old = c.args.known.now in
    let so_far = c.loop-place.invariant in
    let place = c.loop-place.place in
    let number = c.edge_out-edge.result in
    let edges = c.as_slice-edges.result.now in
    let half = c.forget_edge.new.known in
    let all = ap (λ es. length es) c.as_slice-edges.ensures in
    let l = number_within system c.mark.new.self c.loop-place.known c.args.point place number
    c.count_out-place-end.result so_far.marks (so_far.lists.1 ∙ sym c.mark.ensures.lists.1) c.count_out-place-end.ensures
    c.loop-place-test.true c.edge_out-edge.ensures in
    let here : edge_at system number ≡ c.index-edges-edge.result = edge_here system edges number c.index-edges-edge.result
    c.as_slice-edges.ensures (omega (arith, all, l)) c.index-edges-edge.is in
    let to = ap (λ (e : _). e.to) (sym c.index-edges-edge.is ∙ sym here) in
    let listed : number ≡ get_or (get_or old.outgoing c.args.point []) place 0 =
    c.edge_out-edge.ensures ∙ ap (λ ls. get_or (get_or ls c.args.point []) place 0) so_far.lists.1 in
    forgotten_more system c.args.point old c.loop-place.known half c.mark-in-loop-place.new.self place so_far c.forget_edge.ensures.entries
    (λ row q. ap (λ n. known_at system half n row) (sym listed) ∙ c.forget_edge.ensures.gone row q) c.forget_edge.ensures.part
    c.forget_edge.ensures.marks c.mark-in-loop-place.ensures.values
    (c.mark-in-loop-place.ensures.settled
    ∙ ap (λ p. slice_set half.settled.items p false) (to ∙ ap (λ n. (edge_at system n).to) listed))
    c.mark-in-loop-place.ensures.lists

pub returns : goal.returns
returns c =
    let count = c.count_out-place-end.ensures ∙ ap (λ ls. length (get_or ls c.args.point [])) c.mark.ensures.lists.1 in
    forgotten_all c.args.system.now c.args.point c.args.known.now c.loop-place.known c.loop-place.place c.requires.marks
    (omega (arith, count, c.loop-place-test.false, c.loop-place.auto.place-end)) c.loop-place.invariant
