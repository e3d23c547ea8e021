use Rattle.std.proofs.Common.{◌≡◌, ◌∙◌, ℕ, ◌<◌, ◌≤◌, List, length, map, get_or, refl, ap, sym, subst}
use Rattle.std.specs.Prelude.{None, Some}
use Rattle.std.proofs.lemmas.Result.{err_from_is_err_and}
use Rattle.std.proofs.lemmas.List.{get_or-map, length-map}
use Rattle.flow_systems.specs.Equations.{Equations}
use Rattle.flow_systems.specs.View.{equations_of}
use Rattle.cert_types.specs.Certificates.{step_of}
use Rattle.cert_types.specs.declared.step.Step.{Step as Fitted}
use Rattle.theory_validity.specs.Steps.{Step, after_step, start_vector}
use Rattle.cert_checker.specs.Events.{first_stop}
use Rattle.cert_checker.specs.Rooms.{IsAt}
use Rattle.cert_checker.specs.StepEvents.{step_events}
use Rattle.cert_checker.specs.Stands.{Stands}
use Rattle.cert_checker.proofs.events.Sequence.{steps_more, leads_more, steps_stop, steps_all, led_all}
use Rattle.cert_written.specs.declared.step.Step.{Step as Written}
use Rattle.cert_fitted.specs.Fitted.{step_for}
use Rattle.cert_fitted.proofs.checking.check_steps.Goals as goal

pub loop-number-init : goal.loop-number-init
loop-number-init c = record { room = c.start.ensures.room; z = start_vector; at = c.start.ensures.start; leads = refl; left = refl }

-- the step for which a written one stands
abbrev theirs : Equations → Written → Step
theirs S step = step_of (length S.template) (step_for S step)

-- all of them
abbrev all_theirs : Equations → List Written → List Step
all_theirs S steps = map (step_of (length S.template)) (map (step_for S) steps)

long : (S : Equations) (steps : List Written) → length (all_theirs S steps) ≡ length steps
long S steps = length-map (map (step_for S) steps) (step_of (length S.template)) ∙ length-map steps (step_for S)

-- a written step, as the step for which it stands
there : (S : Equations) (steps : List Written) (i : ℕ) (step : Written) → i < length steps → step ≡ get_or steps i step →
    (i < length (all_theirs S steps)) × (theirs S step ≡ get_or (all_theirs S steps) i (theirs S step))
there S steps i step l is = (
  subst (λ n. i < n) (sym (long S steps)) l,
  ap (theirs S) is ∙ ap (step_of (length S.template)) (sym (get_or-map (step_for S) steps i step (step_for S step) l))
      ∙ sym (get_or-map (step_of (length S.template)) (map (step_for S) steps) i (step_for S step) (theirs S step)
      (subst (λ n. i < n) (sym (length-map steps (step_for S))) l)),
)

pub returns-in_err-take_step-clause-answer : goal.returns-in_err-take_step-clause-answer
returns-in_err-take_step-clause-answer c =
    let S = equations_of c.args.system.now in
    let i = c.loop-number.number in
    let v = c.loop-number.invariant in
    let step = theirs S c.index-steps-number.result in
    let at = there S c.args.steps.now i c.index-steps-number.result c.loop-number-test.true c.index-steps-number.is in
    let f = c.in_err-take_step.field-0.0 in
    let p = err_from_is_err_and c.from_residual-in_err-take_step.result c.from_residual-in_err-take_step.ensures.1 in
    rw (p.1, p.2) (steps_stop S (all_theirs S c.args.steps.now) i v.z v.left v.leads step at.0 at.1 f
    (subst (λ (x : Fitted). first_stop (step_events S v.z i (step_of (length S.template) x)) ≡ Some f) c.in_ok-fitted.ensures
    (c.in_err-take_step.ensures.answer v.z v.at)))

pub loop-number-preserved : goal.loop-number-preserved
loop-number-preserved c =
    let S = equations_of c.args.system.now in
    let steps = all_theirs S c.args.steps.now in
    let i = c.loop-number.number in
    let v = c.loop-number.invariant in
    let step = theirs S c.index-steps-number.result in
    let at = there S c.args.steps.now i c.index-steps-number.result c.loop-number-test.true c.index-steps-number.is in
    let t = subst (λ (x : Fitted). IsAt S c.take_step.new.scratch (after_step (step_of (length S.template) x) v.z)
    × (first_stop (step_events S v.z i (step_of (length S.template) x)) ≡ None)) c.in_ok-fitted.ensures
    (c.in_ok-take_step.ensures.answer v.z v.at) in
    record {
      room = c.take_step.ensures.room;
      z = after_step step v.z;
      at = t.0;
      leads = leads_more S steps i v.z v.left v.leads step at.0 at.1;
      left = steps_more S steps i v.z v.left v.leads step at.0 at.1 t.1;
    }

pub returns : goal.returns
returns c =
    let S = equations_of c.args.system.now in
    let steps = all_theirs S c.args.steps.now in
    let i = c.loop-number.number in
    let v = c.loop-number.invariant in
    let l : length steps ≤ i = subst (λ n. n ≤ i) (sym (long S c.args.steps.now)) c.loop-number-test.false in
    record {
      room = v.room;
      answer = (
        subst (Stands S c.loop-number.scratch.base) (sym (led_all S steps i v.z v.left v.leads l)) v.at.base,
        steps_all S steps i v.z v.left v.leads l,
      );
    }
