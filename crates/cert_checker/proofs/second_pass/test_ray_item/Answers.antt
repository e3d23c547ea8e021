use Rattle.std.proofs.Common.{◌↔◌, ◌++◌, [], ◌∷◌, List, length, refl, sym, subst, subst₂}
use Rattle.std.specs.Prelude.{IsTrue}
use Rattle.std.proofs.lemmas.Result.{err_from_is_err_and}
use Rattle.base_numbers.specs.Rational.{zero_ℚ, ◌<ℚ◌}
use Rattle.flow_systems.specs.declared.spot.Site.{Site}
use Rattle.flow_systems.specs.View.{equations_of}
use Rattle.cert_types.specs.Certificates.{step_of}
use Rattle.theory_validity.specs.Words.{lin, end_form}
use Rattle.theory_validity.specs.Steps.{Sized, word, edge_of, row_of}
use Rattle.theory_validity.specs.Decide.{dec_lt_ℚ, dec_le_ℚ}
use Rattle.theory_validity.specs.Faults.{Fault, RayFault}
use Rattle.cert_checker.specs.Events.{Event, Test, decided}
use Rattle.cert_checker.specs.Items.{item_at}
use Rattle.cert_checker.specs.StepEvents.{at_item, allowances, carry_events, going_events}
use Rattle.cert_checker.proofs.following.Traces.{stop_sooner}
use Rattle.cert_checker.proofs.first_pass.Comparisons.{test_less}
use Rattle.cert_checker.proofs.fault.Tests.{ensured, then_reached, goes_on, ends_with}
use Rattle.cert_checker.proofs.item.Places.{ray_second}
use Rattle.cert_checker.proofs.second_pass.test_ray_item.Goals as goal

pub returns-in_err-ensure : goal.returns-in_err-ensure
unfolding going_events
returns-in_err-ensure c = λ z g.
    let r = err_from_is_err_and c.from_residual.result c.from_residual.ensures.1 in
    let S = equations_of c.args.system.now in
    let rows = length S.template in
    let rates = allowances (step_of rows c.args.step.now).items z in
    let item = item_at rows c.args.step.now c.args.k in
    let fault = RayFault c.args.number c.args.k in
    let told = subst₂ (λ a b. IsTrue c.lt.result ↔ (a <ℚ b)) c.zero.ensures.value (sym (c.number_at-rate.ensures rows))
    (test_less c.zero.result c.number_at-rate.result c.lt.result c.lt.ensures) in
    let first = dec_lt_ℚ zero_ℚ item.number in
    let last = dec_le_ℚ item.number (lin (end_form S.variables (edge_of S item).actions (row_of S item)) (word item.second)) in
    let rest = carry_events (at_item c.args.number c.args.k) fault S rates (edge_of S item) (row_of S item) item.second
    ++ Test (decided last) fault ∷ [] in
    let e = c.in_err-ensure.field-0.0 in
    rw (r.1, r.2) (stop_sooner (Test (decided first) fault ∷ []) rest e
    (ensured first c.lt.result fault (ends_with e) told c.in_err-ensure.ensures.passed c.in_err-ensure.ensures.fault))

pub returns : goal.returns
unfolding going_events
returns c = λ z g.
    let S = equations_of c.args.system.now in
    let rows = length S.template in
    let rates = allowances (step_of rows c.args.step.now).items z in
    let item = item_at rows c.args.step.now c.args.k in
    let fault = RayFault c.args.number c.args.k in
    let n = sym (c.number_at-rate.ensures rows) in
    let told = subst₂ (λ a b. IsTrue c.lt.result ↔ (a <ℚ b)) c.zero.ensures.value n
    (test_less c.zero.result c.number_at-rate.result c.lt.result c.lt.ensures) in
    let first = dec_lt_ℚ zero_ℚ item.number in
    let passed = ensured first c.lt.result fault goes_on told c.in_ok-ensure.ensures.passed tt in
    let x = lin (end_form S.variables (edge_of S item).actions (row_of S item)) (word item.second) in
    let events : Site → Fault → List Event = λ site fault. carry_events site fault S rates (edge_of S item) (row_of S item) item.second in
    then_reached first fault (at_item c.args.number c.args.k) item.number x events c.ensure_reached.result passed.1 c.item_site.ensures n
    (c.ensure_reached.ensures x fault events (c.follow_item.ensures rates item.second g
    (c.second_at.ensures rows (ray_second rows c.args.step.now c.requires.ray))) refl)

pub follow_item-requires-clause-sized : goal.follow_item-requires-clause-sized
follow_item-requires-clause-sized c =
    let rows = length c.args.system.now.template in
    subst (Sized (equations_of c.args.system.now) (item_at rows c.args.step.now c.args.k))
    (c.second_at.ensures rows (ray_second rows c.args.step.now c.requires.ray)) c.requires.usable.sized
