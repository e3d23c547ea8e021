use Rattle.std.proofs.Common.{◌≡◌, ◌∙◌, ℕ, ◌<◌, ◌≤◌, List, length, map, get_or, refl, ap, sym, subst}
use Rattle.std.proofs.lemmas.Result.{err_from_is_err_and}
use Rattle.std.proofs.lemmas.List.{get_or-map, length-map}
use Rattle.flow_systems.specs.View.{equations_of}
use Rattle.cert_types.specs.declared.step.Step.{Step as CertStep}
use Rattle.cert_types.specs.Certificates.{step_of}
use Rattle.theory_validity.specs.Steps.{after_step, start_vector}
use Rattle.cert_checker.specs.Stands.{Stands}
use Rattle.cert_checker.proofs.events.Sequence.{steps_more, leads_more, steps_stop, steps_all, led_all}
use Rattle.cert_checker.proofs.steps.check_steps.Goals as goal

pub loop-number-init : goal.loop-number-init
loop-number-init c = record { room = c.start.ensures.room; z = start_vector; at = c.start.ensures.start; leads = refl; left = refl }

-- a step of the certificate, as the step that it stands for
there : (rows : ℕ) (steps : List CertStep) (i : ℕ) (step : CertStep) → i < length steps → step ≡ get_or steps i step →
    (i < length (map (step_of rows) steps)) × (step_of rows step ≡ get_or (map (step_of rows) steps) i (step_of rows step))
there rows steps i step l is = (
  subst (λ n. i < n) (sym (length-map steps (step_of rows))) l,
  ap (step_of rows) is ∙ sym (get_or-map (step_of rows) steps i step (step_of rows step) l),
)

pub loop-number-preserved : goal.loop-number-preserved
loop-number-preserved c =
    let S = equations_of c.args.system.now in
    let steps = map (step_of (length S.template)) c.args.steps.now in
    let v = c.loop-number.invariant in
    let step = step_of (length S.template) c.index-steps-number.result in
    let at = there (length S.template) c.args.steps.now c.loop-number.number c.index-steps-number.result c.loop-number-test.true
    c.index-steps-number.is in
    let t = c.in_ok-take_step.ensures.answer v.z v.at in
    record {
      room = c.take_step.ensures.room;
      z = after_step step v.z;
      at = t.0;
      leads = leads_more S steps c.loop-number.number v.z v.left v.leads step at.0 at.1;
      left = steps_more S steps c.loop-number.number v.z v.left v.leads step at.0 at.1 t.1;
    }

pub returns-in_err-take_step : goal.returns-in_err-take_step
returns-in_err-take_step c =
    let S = equations_of c.args.system.now in
    let v = c.loop-number.invariant in
    let at = there (length S.template) c.args.steps.now c.loop-number.number c.index-steps-number.result c.loop-number-test.true
    c.index-steps-number.is in
    let p = err_from_is_err_and c.from_residual.result c.from_residual.ensures.1 in
    record {
      room = c.take_step.ensures.room;
      answer = rw (p.1, p.2) (steps_stop S (map (step_of (length S.template)) c.args.steps.now) c.loop-number.number v.z v.left v.leads
          (step_of (length S.template) c.index-steps-number.result)
          at.0 at.1 c.in_err-take_step.field-0.0 (c.in_err-take_step.ensures.answer v.z v.at));
    }

pub returns : goal.returns
returns c =
    let S = equations_of c.args.system.now in
    let rows = length c.args.system.now.template in
    let steps = map (step_of rows) c.args.steps.now in
    let i = c.loop-number.number in
    let v = c.loop-number.invariant in
    let l : length steps ≤ i = subst (λ n. n ≤ i) (sym (length-map c.args.steps.now (step_of rows))) c.loop-number-test.false in
    record {
      room = v.room;
      answer = (
        subst (Stands S c.loop-number.scratch.base) (sym (led_all S steps i v.z v.left v.leads l)) v.at.base,
        steps_all S steps i v.z v.left v.leads l,
      );
    }
