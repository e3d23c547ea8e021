use Rattle.std.proofs.Common.{◌≡◌, ◌∙◌, [], ◌∷◌, true≢false, sym, subst₂}
use Rattle.std.proofs.lemmas.Result.{err_from_is_err_and}
use Rattle.base_numbers.specs.Rational.{zero_ℚ, ◌<ℚ◌}
use Rattle.base_fractions.specs.Operation.{operation_of}
use Rattle.flow_systems.specs.View.{equations_of}
use Rattle.theory_validity.specs.Certificates.{side, Empty}
use Rattle.theory_validity.specs.Decide.{dec_lt_ℚ}
use Rattle.cert_checker.specs.Events.{Test, decided, fault_answer, first_stop, wide_answer}
use Rattle.cert_checker.specs.EvidenceEvents.{combination_events, evidence_events}
use Rattle.cert_checker.proofs.first_pass.Comparisons.{test_less}
use Rattle.cert_checker.proofs.following.Traces.{stop_sooner, stop_later, alone_yes, test_no}
use Rattle.cert_checker.proofs.evidence.Sums.{found_none, found_some, told_if}
use Rattle.cert_checker.proofs.evidence.Events.{empty_as}
use Rattle.cert_checker.proofs.evidence.empty_passes.Goals as goal

pub returns-in_err-value : goal.returns-in_err-value
returns-in_err-value c = λ z e row number h f site fault.
    let p = err_from_is_err_and c.from_residual.result c.from_residual.ensures.1 in
    let S = equations_of c.args.system.now in
    let es = combination_events site fault S z e c.args.rows.now c.args.guards.now [] in
    let last = Test (decided (dec_lt_ℚ (side S z e c.args.rows.now c.args.guards.now) zero_ℚ)) fault ∷ [] in
    let a = wide_answer site (operation_of (λ q. q) c.in_err-value.field-0.0) in
    rw (p.1, p.2) (empty_as site fault S z e c.args.rows.now c.args.guards.now row number
    ∙ stop_sooner es last a (c.in_err-value.ensures z e h f site fault))

pub returns-in_default : goal.returns-in_default
returns-in_default c = λ z e row number h f site fault.
    let S = equations_of c.args.system.now in
    let value = side S z e c.args.rows.now c.args.guards.now in
    let es = combination_events site fault S z e c.args.rows.now c.args.guards.now [] in
    let missed = found_none es fault value c.in_ok-value.field-0 c.in_default.not-Some (c.in_ok-value.ensures z e h f site fault) in
    empty_as site fault S z e c.args.rows.now c.args.guards.now row number
    ∙ stop_sooner es (Test (decided (dec_lt_ℚ value zero_ℚ)) fault ∷ []) (fault_answer fault) missed

pub returns : goal.returns
returns c = λ z e row number h f site fault.
    let S = equations_of c.args.system.now in
    let value = side S z e c.args.rows.now c.args.guards.now in
    let last = dec_lt_ℚ value zero_ℚ in
    let es = combination_events site fault S z e c.args.rows.now c.args.guards.now [] in
    let found = found_some es fault value c.in_ok-value.field-0 c.in-Some.value c.in-Some.is (c.in_ok-value.ensures z e h f site fault) in
    let t = test_less c.in-Some.value c.zero.result c.lt.result c.lt.ensures in
    let tail : first_stop (evidence_events site fault S z e row number (Empty c.args.rows.now c.args.guards.now))
    ≡ first_stop (Test (decided last) fault ∷ []) =
    empty_as site fault S z e c.args.rows.now c.args.guards.now row number ∙ stop_later es (Test (decided last) fault ∷ []) found.1 in
    told_if (evidence_events site fault S z e row number (Empty c.args.rows.now c.args.guards.now)) fault c.lt.result
    (λ l. tail ∙ alone_yes last fault (subst₂ (λ x y. x <ℚ y) found.0 c.zero.ensures.value (t.0 l)))
    (λ l. tail ∙ test_no last fault []
    (λ q. true≢false (sym (t.1 (subst₂ (λ x y. x <ℚ y) (sym found.0) (sym c.zero.ensures.value) q)) ∙ l)))
    c.then_some.result c.then_some.ensures
