use Rattle.std.proofs.Common.{◌≡◌, ◌∙◌, ◌/◌, ◌%◌, true, true≢false, length, get_or, refl, sym, ap, subst, arith}
use Rattle.std.specs.Prelude.{Option, Some, None, IsNone, IfSome}
use Rattle.std.proofs.lemmas.List.{get_or-set_same, get_or-set_other}
use Rattle.std.proofs.lemmas.Nat.{div-add-mod'}
use Rattle.base_numbers.specs.Extended.{neg_inf}
use Rattle.flow_systems.specs.View.{equations_of}
use Rattle.solve_offers.specs.AtBounds.{vector_at, IsOfferAt}
use Rattle.solve_offers.specs.declared.offer.Offer.{Offer}
use Rattle.solve_offers.specs.Offers.{is_top}
use Rattle.solve_offers.proofs.offers.Unknowns.{row_within, unknown_taken, unknown_kept, unknown_at_top}
use Rattle.solve_offers.proofs.improvement.offer_edge.Goals as goal

pub returns-in-None-clause-becomes : goal.returns-in-None-clause-becomes
returns-in-None-clause-becomes g c =
    let system = c.args.at.now.system.now in
    let bounds = c.args.at.now.bounds.now in
    let u = c.args.unknown in
    let rows = length system.template in
    unknown_at_top (equations_of system) (vector_at system bounds) _ u (get_or c.args.pick.now u None) (get_or c.args.pick.now u None)
    (row_within u (length system.flow.points) rows c.requires.unknown)
    (ap (λ k. is_top (get_or bounds k neg_inf)) (div-add-mod' u rows)
    ∙ (subst (λ (a : Option Offer). IsNone a → is_top (get_or bounds u neg_inf) ≡ true) c.in-None.is c.in_ok-asked.ensures.top) refl)
    refl

pub returns-then-some_exceeds-clause-becomes : goal.returns-then-some_exceeds-clause-becomes
returns-then-some_exceeds-clause-becomes g c =
    let system = c.args.at.now.system.now in
    let bounds = c.args.at.now.bounds.now in
    let u = c.args.unknown in
    let offer = c.in-Some.offer in
    let position = c.choose-position.result in
    unknown_taken (equations_of system) (vector_at system bounds) _ u (get_or c.args.pick.now u None)
    (get_or c.set.new.self u None) offer
    (row_within u (length system.flow.points) (length system.template) c.requires.unknown)
    (subst (λ (a : Option Offer). IfSome a (IsOfferAt system bounds (u / length system.template) (u % length system.template))) c.in-Some.is
    c.in_ok-asked.ensures.offer)
    position (_, c.choose-position.ensures.answers, refl) c.choose-position.ensures.exceeds
    (ap (λ l. get_or l u None) c.set.ensures
    ∙ get_or-set_same c.args.pick.now u (Some (get_or c.as_slice.result.now position 0)) None
    (omega (arith, c.requires.unknown, c.requires.pick))
    ∙ ap (λ es. Some (get_or es position 0)) c.as_slice.ensures)

pub returns-clause-becomes : goal.returns-clause-becomes
returns-clause-becomes g c =
    let system = c.args.at.now.system.now in
    let bounds = c.args.at.now.bounds.now in
    let u = c.args.unknown in
    let offer = c.in-Some.offer in
    unknown_kept (equations_of system) (vector_at system bounds) _ u (get_or c.args.pick.now u None)
    (get_or c.args.pick.now u None) offer
    (row_within u (length system.flow.points) (length system.template) c.requires.unknown)
    (subst (λ (a : Option Offer). IfSome a (IsOfferAt system bounds (u / length system.template) (u % length system.template))) c.in-Some.is
    c.in_ok-asked.ensures.offer)
    (λ h. true≢false (sym (c.some_exceeds.ensures.1 h) ∙ c.if-some_exceeds.false))
    refl

pub returns-then-some_exceeds-clause-others : goal.returns-then-some_exceeds-clause-others
returns-then-some_exceeds-clause-others g c u apart =
    ap (λ l. get_or l u None) c.set.ensures
    ∙ get_or-set_other c.args.pick.now c.args.unknown u (Some (get_or c.as_slice.result.now c.choose-position.result 0)) None apart
