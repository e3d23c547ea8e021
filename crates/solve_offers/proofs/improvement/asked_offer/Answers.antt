use Rattle.std.proofs.Common.{◌∙◌, ◌/◌, ◌%◌, ◌<◌, length, get_or, sym, ap, subst}
use Rattle.std.proofs.lemmas.Nat.{div-add-mod'}
use Rattle.base_numbers.specs.Extended.{neg_inf, pos_inf, ◌<ᴱ◌}
use Rattle.solve_offers.specs.AtBounds.{vector_at, IsOfferAt}
use Rattle.solve_offers.specs.Offers.{is_top}
use Rattle.solve_offers.proofs.offers.Offered.{below_top}
use Rattle.solve_offers.proofs.offers.Unknowns.{point_within, row_within}
use Rattle.solve_offers.proofs.improvement.asked_offer.Goals as goal

pub make_offer-requires-clause-limited : goal.make_offer-requires-clause-limited
make_offer-requires-clause-limited c =
    let system = c.args.at.now.system.now in
    let bounds = c.args.at.now.bounds.now in
    let u = c.args.unknown in
    let below = below_top (get_or bounds u neg_inf)
    (sym (sym c.if-is_unlimited.false ∙ c.is_unlimited.ensures ∙ ap is_top c.at-bound.ensures)) in
    subst (λ n. vector_at system bounds (u / n) (u % n) <ᴱ pos_inf) (sym (ap (λ t. length t) c.as_slice.ensures.rows))
    (subst (λ b. b <ᴱ pos_inf) (sym (ap (λ k. get_or bounds k neg_inf) (div-add-mod' u (length system.template)))) below)

pub returns-clause-offer : goal.returns-clause-offer
returns-clause-offer c =
    let system = c.args.at.now.system.now in
    let bounds = c.args.at.now.bounds.now in
    subst (λ n. IsOfferAt system bounds (c.args.unknown / n) (c.args.unknown % n) c.in_ok-offer.offer)
    (ap (λ t. length t) c.as_slice.ensures.rows) c.in_ok-offer.ensures.offer

pub make_offer-requires-clause-row : goal.make_offer-requires-clause-row
make_offer-requires-clause-row c =
    let n = length c.args.at.now.system.now.template in
    subst (λ m. c.args.unknown % m < n) (sym (ap (λ t. length t) c.as_slice.ensures.rows))
    (row_within c.args.unknown (length c.args.at.now.system.now.flow.points) n c.requires.unknown)

pub make_offer-requires-clause-point : goal.make_offer-requires-clause-point
make_offer-requires-clause-point c =
    let points = length c.args.at.now.system.now.flow.points in
    subst (λ m. c.args.unknown / m < points) (sym (ap (λ t. length t) c.as_slice.ensures.rows))
    (point_within c.args.unknown points (length c.args.at.now.system.now.template) c.requires.unknown)
