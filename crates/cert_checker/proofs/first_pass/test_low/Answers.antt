use Rattle.std.proofs.Common.{◌∙◌, ◌↔◌, ◌++◌, [], ◌∷◌, List, length, sym, subst, subst₂}
use Rattle.std.specs.Prelude.{IsTrue}
use Rattle.std.proofs.lemmas.Result.{err_from_is_err_and}
use Rattle.base_numbers.specs.Rational.{ℚ}
use Rattle.base_numbers.specs.Extended.{Ext}
use Rattle.base_fractions.specs.Extended.{extended}
use Rattle.flow_systems.specs.declared.spot.Site.{Site}
use Rattle.flow_systems.specs.View.{equations_of}
use Rattle.cert_types.specs.Certificates.{step_of}
use Rattle.theory_validity.specs.Steps.{Kind, Sized, word, edge_of, row_of, item_value}
use Rattle.theory_validity.specs.Faults.{Fault, TraceFault, LowFault, bound_at}
use Rattle.cert_checker.specs.Events.{Event, IsRun, Test, decided}
use Rattle.cert_checker.specs.Runs.{run_events}
use Rattle.cert_checker.specs.Items.{item_at}
use Rattle.cert_checker.specs.StepEvents.{at_item, IsOpen, dec_open, dec_raised}
use Rattle.cert_checker.proofs.names.Items.{kind_same}
use Rattle.cert_checker.proofs.following.Traces.{stop_sooner}
use Rattle.cert_checker.proofs.fault.Tests.{bound_is, ensured, run_after, goes_on, ends_with}
use Rattle.cert_checker.proofs.first_pass.test_low.Goals as goal

pub returns-in_err-ensure : goal.returns-in_err-ensure
returns-in_err-ensure c = λ z h.
    let r = err_from_is_err_and c.from_residual.result c.from_residual.ensures.1 in
    let S = equations_of c.args.system.now in
    let rows = length S.template in
    let kind = (step_of rows c.args.step.now).kind in
    let item = item_at rows c.args.step.now c.args.k in
    let low = LowFault c.args.number c.args.k in
    let at = c.at.ensures ∙ bound_is S c.args.bounds.now z h item c.unknown_at-unknown.result (c.unknown_at-unknown.ensures.point rows)
    (c.unknown_at-unknown.ensures.row rows) c.requires.placed in
    let told = subst₂ (λ k v. IsTrue c.is_open.result ↔ IsOpen k v) (kind_same 1 rows c.args.step.now) at c.is_open.ensures in
    let first = dec_open kind (bound_at z item) in
    let last = dec_raised kind (bound_at z item) item.number (item_value S item (word item.low)) in
    let rest = run_events (at_item c.args.number c.args.k) (TraceFault c.args.number c.args.k) S z (edge_of S item) (row_of S item) item.low
    ++ Test (decided last) low ∷ [] in
    let e = c.in_err-ensure.field-0.0 in
    rw (r.1, r.2) (stop_sooner (Test (decided first) low ∷ []) rest e (ensured first c.is_open.result low (ends_with e) told
    c.in_err-ensure.ensures.passed c.in_err-ensure.ensures.fault))

pub returns : goal.returns
returns c = λ z h.
    let S = equations_of c.args.system.now in
    let rows = length S.template in
    let item = item_at rows c.args.step.now c.args.k in
    let low = LowFault c.args.number c.args.k in
    let same = kind_same 1 rows c.args.step.now in
    let at = bound_is S c.args.bounds.now z h item c.unknown_at-unknown.result (c.unknown_at-unknown.ensures.point rows)
    (c.unknown_at-unknown.ensures.row rows) c.requires.placed in
    let told = subst₂ (λ k v. IsTrue c.is_open.result ↔ IsOpen k v) same (c.at.ensures ∙ at) c.is_open.ensures in
    let events : Site → Fault → List Event = λ site fault. run_events site fault S z (edge_of S item) (row_of S item) item.low in
    let shown : List Event = events (at_item c.args.number c.args.k) (TraceFault c.args.number c.args.k) in
    let value = item_value S item (word item.low) in
    let raised : Kind → Ext → ℚ → List Event = λ kind v to. Test (decided (dec_raised kind v to value)) low ∷ [] in
    let first = dec_open (step_of rows c.args.step.now).kind (bound_at z item) in
    let passed = ensured first c.is_open.result low goes_on told c.in_ok-ensure.ensures.passed tt in
    let after = c.ensure_raised.ensures value events (c.follow_item.ensures z item.low h (c.low_at.ensures rows)) in
    let by_number = subst (λ to. IsRun (λ u. Unit {0}) (shown ++ raised (step_of 1 c.args.step.now).kind (extended c.at-2.result) to)
    c.ensure_raised.result) (sym (c.number_at.ensures rows)) after in
    let rest = subst₂ (λ k v. IsRun (λ u. Unit {0}) (shown ++ raised k v item.number) c.ensure_raised.result) same (c.at-2.ensures ∙ at)
    by_number in
    run_after (λ u. Unit {0}) (Test (decided first) low ∷ []) (shown ++ raised (step_of rows c.args.step.now).kind (bound_at z item)
    item.number) c.ensure_raised.result passed.1 rest

pub follow_item-requires-clause-sized : goal.follow_item-requires-clause-sized
follow_item-requires-clause-sized c =
    let S = equations_of c.args.system.now in
    let rows = length S.template in
    subst (Sized S (item_at rows c.args.step.now c.args.k)) (c.low_at.ensures rows) c.requires.sized
