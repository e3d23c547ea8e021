use Rattle.std.proofs.Common.{◌∙◌, ◌<◌, ◌≤◌, ◌++◌, ◌∷◌, [], length, get_or, map, sym, ap, arith}
use Rattle.std.proofs.lemmas.List.{append-nil}
use Rattle.std.proofs.lemmas.Result.{err_from_is_err_and}
use Rattle.flow_systems.specs.View.{equations_of}
use Rattle.cert_types.specs.Certificates.{evidence_of}
use Rattle.theory_rounds.specs.Made.{exact_upper}
use Rattle.solve_offers.specs.AtBounds.{vector_at, edge_at, row_at}
use Rattle.solve_offers.proofs.offers.OfferStops.{stop_into}
use Rattle.solve_rounds.proofs.uppers.IntoNumbers.{listed_size, into, into_is, number_within, number_to}
use Rattle.solve_rounds.proofs.uppers.UpperLists.{uppers_to, uppers_more, uppers_all, pushed}
use Rattle.solve_rounds.proofs.uppers.push_into.Goals as goal

pub count_into-place-end-requires : goal.count_into-place-end-requires
count_into-place-end-requires c =
    let size = listed_size c.args.at.now.system.now c.args.known.now c.requires.known.marks in
    let within = c.requires.point in
    omega (arith, within, size)

pub edge_into-number-requires-clause-point : goal.edge_into-number-requires-clause-point
edge_into-number-requires-clause-point c =
    let size = listed_size c.args.at.now.system.now c.loop-place.known c.loop-place.invariant.known.marks in
    let within = c.requires.point in
    omega (arith, within, size)

pub edge_into-number-requires-clause-place : goal.edge_into-number-requires-clause-place
edge_into-number-requires-clause-place c =
    let count = c.count_into-place-end.ensures ∙ ap (λ ls. length (get_or ls c.args.point [])) c.requires.known.marks.listed in
    let here = ap (λ ls. length (get_or ls c.args.point [])) c.loop-place.invariant.known.marks.listed in
    omega (arith, count, here, c.loop-place-test.true, c.loop-place.auto.place-end)

pub shown-requires-clause-edge : goal.shown-requires-clause-edge
shown-requires-clause-edge c =
    let system = c.args.at.now.system.now in
    let i = c.loop-place.place in
    let count = c.count_into-place-end.ensures ∙ ap (λ ls. length (get_or ls c.args.point [])) c.requires.known.marks.listed in
    let number = c.edge_into-number.ensures ∙ ap (λ ls. get_or (get_or ls c.args.point []) i 0) c.loop-place.invariant.known.marks.listed in
    let l : i < length (into system c.args.point c.requires.point) =
    omega (arith, count, c.loop-place-test.true, c.loop-place.auto.place-end) in
    number_within system c.args.point c.requires.point c.edge_into-number.result i l number

pub loop-place-init : goal.loop-place-init
loop-place-init c = record { uppers = sym (append-nil (map evidence_of c.args.uppers.now.items)); known = c.requires.known }

pub loop-place-preserved : goal.loop-place-preserved
loop-place-preserved c =
    let system = c.args.at.now.system.now in
    let bounds = c.args.at.now.bounds.now in
    let row = c.args.row in
    let numbers = into system c.args.point c.requires.point in
    let i = c.loop-place.place in
    let old = map evidence_of c.args.uppers.now.items in
    let count = c.count_into-place-end.ensures ∙ ap (λ ls. length (get_or ls c.args.point [])) c.requires.known.marks.listed in
    let number = c.edge_into-number.ensures ∙ ap (λ ls. get_or (get_or ls c.args.point []) i 0) c.loop-place.invariant.known.marks.listed in
    let l : i < length numbers = omega (arith, count, c.loop-place-test.true, c.loop-place.auto.place-end) in
    record {
      uppers = pushed c.loop-place.uppers.items _ _ old _ c.in_ok-push.ensures.items c.loop-place.invariant.uppers
          ∙ ap (λ s. old ++ s)
          (ap (λ u. uppers_to system bounds row numbers i ++ u ∷ []) (c.in_ok-upper.ensures.upper
          ∙ ap (λ n. exact_upper (equations_of system) (vector_at system bounds) (edge_at system n) (row_at system row)) number)
          ∙ uppers_more system bounds row numbers i l);
      known = c.in_ok-upper.ensures.known;
    }

pub returns-in_err-upper-clause-stop : goal.returns-in_err-upper-clause-stop
returns-in_err-upper-clause-stop c =
    let q = err_from_is_err_and c.from_residual.result c.from_residual.ensures.1 in
    let system = c.args.at.now.system.now in
    let p = c.args.point in
    let i = c.loop-place.place in
    let count = c.count_into-place-end.ensures ∙ ap (λ ls. length (get_or ls p [])) c.requires.known.marks.listed in
    let number = c.edge_into-number.ensures ∙ ap (λ ls. get_or (get_or ls p []) i 0) c.loop-place.invariant.known.marks.listed in
    let l : i < length (into system p c.requires.point) = omega (arith, count, c.loop-place-test.true, c.loop-place.auto.place-end) in
    let edge = c.edge_into-number.result in
    rw (q.1, q.2)
    (stop_into system c.args.at.now.bounds.now c.args.row c.args.at.now.round c.requires.row p c.requires.limited edge
    (number_within system p c.requires.point edge i l number) (number_to system p c.requires.point edge i l number)
    c.in_err-upper.field-0.0 c.in_err-upper.ensures.stop)

pub returns-clause-uppers : goal.returns-clause-uppers
returns-clause-uppers c =
    let system = c.args.at.now.system.now in
    let bounds = c.args.at.now.bounds.now in
    let p = c.args.point in
    let numbers = into system p c.requires.point in
    let i = c.loop-place.place in
    let count = c.count_into-place-end.ensures ∙ ap (λ ls. length (get_or ls p [])) c.requires.known.marks.listed in
    let last : length numbers ≤ i = omega (arith, count, c.loop-place-test.false, c.loop-place.auto.place-end) in
    c.loop-place.invariant.uppers
    ∙ ap (λ s. map evidence_of c.args.uppers.now.items ++ s)
    (uppers_all system bounds c.args.row p numbers i last (into_is system p c.requires.point))
