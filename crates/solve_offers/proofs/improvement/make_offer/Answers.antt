use Rattle.std.proofs.Common.{◌≡◌, ◌∙◌, ◌+◌, ◌*◌, ◌<◌, ◌≤◌, ℕ, List, [], ◌∷◌, ◌++◌, length, map, get_or, refl, sym, ap, ap₂, subst, arith}
use Rattle.std.proofs.lemmas.List.{take_more}
use Rattle.std.proofs.lemmas.List.FromFn.{length-map-range_with_len}
use Rattle.std.proofs.lemmas.Result.{err_from_is_err_and}
use Rattle.base_fractions.specs.Extended.{extended}
use Rattle.base_numbers.specs.Extended.{neg_inf}
use Rattle.flow_systems.specs.declared.system.System.{System}
use Rattle.solve_offers.specs.declared.known.Known.{Known}
use Rattle.solve_offers.specs.AtBounds.{edge_at}
use Rattle.solve_offers.specs.Improvement.{numbers_into}
use Rattle.solve_offers.specs.Incoming.{numbers_at}
use Rattle.solve_offers.specs.Known.{HasMarks}
use Rattle.solve_offers.proofs.offers.OfferStops.{stop_into}
use Rattle.solve_offers.proofs.improvement.OfferLists.{number_within, number_to, values_more, values_all, numbers_all, same_count}
use Rattle.solve_offers.proofs.improvement.make_offer.Goals as goal

-- the numbers of the edges into a point
abbrev into : System → ℕ → List ℕ
into system p = numbers_at (length system.flow.points) system.flow.edges p

-- there is a list for each point
listed_size : (system : System) (known : Known) → HasMarks system known → length known.incoming ≡ length system.flow.points
listed_size system known marks = ap (λ ls. length ls) marks.listed
    ∙ length-map-range_with_len (λ p. numbers_into p 0 system.flow.edges) 0 (length system.flow.points)

pub count_into-place-end-requires : goal.count_into-place-end-requires
count_into-place-end-requires c =
    let size = listed_size c.args.at.now.system.now c.args.known.now c.requires.known.marks in
    let within = c.requires.point in
    omega (arith, within, size)

pub edge_into-number-requires-clause-point : goal.edge_into-number-requires-clause-point
edge_into-number-requires-clause-point c =
    let size = listed_size c.args.at.now.system.now c.loop-place.known c.loop-place.invariant.known.marks in
    let within = c.requires.point in
    omega (arith, within, size)

pub edge_into-number-requires-clause-place : goal.edge_into-number-requires-clause-place
edge_into-number-requires-clause-place c =
    let count = c.count_into-place-end.ensures ∙ ap (λ ls. length (get_or ls c.args.point [])) c.requires.known.marks.listed in
    let here = ap (λ ls. length (get_or ls c.args.point [])) c.loop-place.invariant.known.marks.listed in
    omega (arith, count, here, c.loop-place-test.true, c.loop-place.auto.place-end)

pub offered_value-requires-clause-edge : goal.offered_value-requires-clause-edge
offered_value-requires-clause-edge c =
    let system = c.args.at.now.system.now in
    let count = c.count_into-place-end.ensures ∙ ap (λ ls. length (get_or ls c.args.point [])) c.requires.known.marks.listed in
    let number = c.edge_into-number.ensures ∙ ap (λ ls. get_or (get_or ls c.args.point []) c.loop-place.place 0)
    c.loop-place.invariant.known.marks.listed in
    let l : c.loop-place.place < length (into system c.args.point) =
    omega (arith, count, c.loop-place-test.true, c.loop-place.auto.place-end) in
    subst (λ n. n < length system.flow.edges) (sym number)
    (number_within system c.args.point c.requires.point (into system c.args.point) refl c.loop-place.place l)

pub loop-place-preserved : goal.loop-place-preserved
loop-place-preserved c =
    let system = c.args.at.now.system.now in
    let bounds = c.args.at.now.bounds.now in
    let numbers = into system c.args.point in
    let i = c.loop-place.place in
    let count = c.count_into-place-end.ensures ∙ ap (λ ls. length (get_or ls c.args.point [])) c.requires.known.marks.listed in
    let number = c.edge_into-number.ensures ∙ ap (λ ls. get_or (get_or ls c.args.point []) i 0) c.loop-place.invariant.known.marks.listed in
    let l : i < length numbers = omega (arith, count, c.loop-place-test.true, c.loop-place.auto.place-end) in
    record {
      numbers = c.in_ok-push.ensures.items ∙ ap₂ (λ ns n. ns ++ n ∷ []) c.loop-place.invariant.numbers number
          ∙ sym (take_more numbers i 0 l);
      values = ap (map extended) c.in_ok-push-2.ensures.items
          ∙ values_more system c.args.point c.requires.point numbers refl bounds c.args.row i
          c.edge_into-number.result c.loop-place.values.items _
          l number c.loop-place.invariant.values c.in_ok-value.ensures.value;
      known = c.in_ok-value.ensures.known;
    }

pub returns-in_err-value-clause-offer : goal.returns-in_err-value-clause-offer
returns-in_err-value-clause-offer c =
    let q = err_from_is_err_and c.from_residual.result c.from_residual.ensures.1 in
    let system = c.args.at.now.system.now in
    let numbers = into system c.args.point in
    let i = c.loop-place.place in
    let count = c.count_into-place-end.ensures ∙ ap (λ ls. length (get_or ls c.args.point [])) c.requires.known.marks.listed in
    let number = c.edge_into-number.ensures ∙ ap (λ ls. get_or (get_or ls c.args.point []) i 0) c.loop-place.invariant.known.marks.listed in
    let l : i < length numbers = omega (arith, count, c.loop-place-test.true, c.loop-place.auto.place-end) in
    rw (q.1, q.2)
    (stop_into system c.args.at.now.bounds.now c.args.row c.args.at.now.round c.requires.row c.args.point
    c.requires.limited c.edge_into-number.result
    (subst (λ n. n < length system.flow.edges) (sym number) (number_within system c.args.point c.requires.point numbers refl i l))
    (ap (λ n. (edge_at system n).to) number ∙ number_to system c.args.point c.requires.point numbers refl i l)
    c.in_err-value.field-0.0 c.in_err-value.ensures.value)

pub returns-clause-offer : goal.returns-clause-offer
returns-clause-offer c =
    let system = c.args.at.now.system.now in
    let bounds = c.args.at.now.bounds.now in
    let numbers = into system c.args.point in
    let i = c.loop-place.place in
    let count = c.count_into-place-end.ensures ∙ ap (λ ls. length (get_or ls c.args.point [])) c.requires.known.marks.listed in
    let last : length numbers ≤ i = omega (arith, count, c.loop-place-test.false, c.loop-place.auto.place-end) in
    record {
      bound = c.at.ensures ∙ ap (λ n. get_or bounds (c.args.point * n + c.args.row) neg_inf) (ap (λ t. length t) c.as_slice.ensures.rows);
      edges = c.new.ensures ∙ numbers_all system c.args.point c.requires.point numbers refl bounds c.args.row i c.loop-place.edges.items
          last c.loop-place.invariant.numbers;
      values = c.new-2.ensures ∙ values_all system c.args.point c.requires.point numbers refl bounds c.args.row i
          c.loop-place.values.items last c.loop-place.invariant.values;
    }

pub invariant_of-result : goal.invariant_of-result
invariant_of-result c = record {
  beside = same_count c.args.at.now.system.now c.args.point c.requires.point (into c.args.at.now.system.now c.args.point) refl
      c.args.at.now.bounds.now c.args.row c.loop-place.place c.new.result c.new-2.result
      (c.new.ensures ∙ c.loop-place.invariant.numbers) (c.new-2.ensures ∙ c.loop-place.invariant.values);
}
