use Rattle.std.proofs.Common.{◌≡◌, ◌∙◌, ◌↔◌, [], ◌∷◌, List, Some, None, ap, sym, subst}
use Rattle.std.specs.Prelude.{IsTrue, IfErr, Ok, Option, Result, MatchOption, MatchResult}
use Rattle.base_numbers.specs.Rational.{ℚ, ◌≤ℚ◌}
use Rattle.base_fractions.specs.declared.wide.Wide.{Wide}
use Rattle.base_fractions.specs.Operation.{operation_of}
use Rattle.flow_systems.specs.declared.spot.Site.{Site}
use Rattle.flow_systems.proofs.fit_tests.Tested.{test_le}
use Rattle.theory_validity.specs.Decide.{dec_le_ℚ}
use Rattle.theory_validity.specs.Faults.{Fault}
use Rattle.cert_checker.specs.declared.fault.CheckFault.{CheckFault}
use Rattle.cert_checker.specs.Events.{Event, Test, decided, fault_answer, first_stop, wide_answer}
use Rattle.cert_checker.proofs.following.Traces.{stop_sooner}
use Rattle.cert_checker.proofs.fault.Tests.{ensured, run_after}
use Rattle.cert_checker.proofs.fault.ensure_reached.Goals as goal

-- what is told of the events by what was followed
abbrev Told : ℚ → List Event → Site → Fault → Result (Option ℚ) (Wide ℚ) → Type 0
Told x es site f r = MatchResult r (λ o. MatchOption o (first_stop es ≡ Some (fault_answer f)) (λ v. (v ≡ x) × (first_stop es ≡ None)))
    (λ w. first_stop es ≡ Some (wide_answer site (operation_of (λ q. q) w)))

pub returns-in-Some : goal.returns-in-Some
returns-in-Some c = λ x f events ans same.
    let v = c.in-Some.value in
    let es = events c.args.site f in
    let told = subst (λ o. Told x es c.args.site f (Ok o)) c.in-Some.is (subst (Told x es c.args.site f) c.in-Ok.is (ans c.args.site f)) in
    let reaches = subst (λ y. IsTrue c.le.result ↔ (c.args.least ≤ℚ y)) told.0 (test_le c.args.least v c.le.result c.le.ensures) in
    let last = dec_le_ℚ c.args.least x in
    let missed = subst (λ (a : CheckFault). IfErr c.ensure.result (λ e. e ≡ a)) same c.ensure.ensures.fault in
    run_after (λ u. Unit {0}) es (Test (decided last) f ∷ []) c.ensure.result told.1
    (ensured last c.le.result f c.ensure.result reaches c.ensure.ensures.passed missed)

pub returns-in-None : goal.returns-in-None
returns-in-None c = λ x f events ans same.
    let es = events c.args.site f in
    let told = subst (λ o. Told x es c.args.site f (Ok o)) c.in-None.is (subst (Told x es c.args.site f) c.in-Ok.is (ans c.args.site f)) in
    stop_sooner es (Test (decided (dec_le_ℚ c.args.least x)) f ∷ []) c.args.fault (told ∙ ap Some (sym same))

pub returns-in-Err : goal.returns-in-Err
returns-in-Err c = λ x f events ans same.
    let es = events c.args.site f in
    let told = subst (Told x es c.args.site f) c.in-Err.is (ans c.args.site f) in
    stop_sooner es (Test (decided (dec_le_ℚ c.args.least x)) f ∷ []) c.wide_at.result (told ∙ ap Some (sym c.wide_at.ensures))
