use Rattle.std.proofs.Common.{◌∙◌, ◌↔◌, ◌++◌, [], ◌∷◌, List, length, refl, sym, subst, subst₂}
use Rattle.std.specs.Prelude.{IsTrue}
use Rattle.std.proofs.lemmas.Result.{err_from_is_err_and}
use Rattle.base_numbers.specs.Extended.{fin, ◌≤ᴱ◌}
use Rattle.flow_systems.specs.declared.spot.Site.{Site}
use Rattle.flow_systems.specs.View.{equations_of}
use Rattle.theory_validity.specs.Steps.{Sized, word, edge_of, row_of, item_value}
use Rattle.theory_validity.specs.Decide.{dec_leᴱ, dec_le_ℚ}
use Rattle.theory_validity.specs.Faults.{Fault, HighFault, bound_at}
use Rattle.cert_checker.specs.Events.{Event, Test, decided}
use Rattle.cert_checker.specs.Runs.{run_events}
use Rattle.cert_checker.specs.Items.{item_at}
use Rattle.cert_checker.specs.StepEvents.{at_item, landing_events}
use Rattle.cert_checker.proofs.following.Traces.{stop_sooner}
use Rattle.cert_checker.proofs.fault.Tests.{bound_is, ensured, then_reached, goes_on, ends_with}
use Rattle.cert_checker.proofs.item.Places.{jump_second}
use Rattle.cert_checker.proofs.second_pass.test_jump_item.Goals as goal

pub returns-in_err-ensure : goal.returns-in_err-ensure
unfolding landing_events
returns-in_err-ensure c = λ z p h g.
    let r = err_from_is_err_and c.from_residual.result c.from_residual.ensures.1 in
    let S = equations_of c.args.system.now in
    let rows = length S.template in
    let item = item_at rows c.args.step.now c.args.k in
    let fault = HighFault c.args.number c.args.k in
    let b = c.at.ensures ∙ bound_is S c.args.base.now z h item c.unknown_at.result (c.unknown_at.ensures.point rows)
    (c.unknown_at.ensures.row rows) c.requires.usable.placed in
    let told = subst₂ (λ v q. IsTrue c.is_at_most.result ↔ (v ≤ᴱ fin q)) b (sym (c.number_at-to.ensures rows)) c.is_at_most.ensures in
    let first = dec_leᴱ (bound_at z item) (fin item.number) in
    let last = dec_le_ℚ item.number (item_value S item (word item.second)) in
    let rest = run_events (at_item c.args.number c.args.k) fault S p (edge_of S item) (row_of S item) item.second
    ++ Test (decided last) fault ∷ [] in
    let e = c.in_err-ensure.field-0.0 in
    rw (r.1, r.2) (stop_sooner (Test (decided first) fault ∷ []) rest e
    (ensured first c.is_at_most.result fault (ends_with e) told c.in_err-ensure.ensures.passed c.in_err-ensure.ensures.fault))

pub returns : goal.returns
unfolding landing_events
returns c = λ z p h g.
    let S = equations_of c.args.system.now in
    let rows = length S.template in
    let item = item_at rows c.args.step.now c.args.k in
    let fault = HighFault c.args.number c.args.k in
    let n = sym (c.number_at-to.ensures rows) in
    let b = c.at.ensures ∙ bound_is S c.args.base.now z h item c.unknown_at.result (c.unknown_at.ensures.point rows)
    (c.unknown_at.ensures.row rows) c.requires.usable.placed in
    let told = subst₂ (λ v q. IsTrue c.is_at_most.result ↔ (v ≤ᴱ fin q)) b n c.is_at_most.ensures in
    let first = dec_leᴱ (bound_at z item) (fin item.number) in
    let passed = ensured first c.is_at_most.result fault goes_on told c.in_ok-ensure.ensures.passed tt in
    let x = item_value S item (word item.second) in
    let events : Site → Fault → List Event = λ site fault. run_events site fault S p (edge_of S item) (row_of S item) item.second in
    then_reached first fault (at_item c.args.number c.args.k) item.number x events c.ensure_reached.result passed.1 c.item_site.ensures n
    (c.ensure_reached.ensures x fault events (c.follow_item.ensures p item.second g
    (c.second_at.ensures rows (jump_second rows c.args.step.now c.requires.jump))) refl)

pub follow_item-requires-clause-sized : goal.follow_item-requires-clause-sized
follow_item-requires-clause-sized c =
    let rows = length c.args.system.now.template in
    subst (Sized (equations_of c.args.system.now) (item_at rows c.args.step.now c.args.k))
    (c.second_at.ensures rows (jump_second rows c.args.step.now c.requires.jump)) c.requires.usable.sized
