use Rattle.std.proofs.Common.{◌≡◌, ◌∙◌, length, ap, sym, subst}
use Rattle.flow_systems.specs.View.{equations_of}
use Rattle.cert_types.specs.Certificates.{step_of}
use Rattle.theory_validity.specs.Steps.{Kind, new_value, put}
use Rattle.cert_checker.specs.Events.{IsRun, first_stop}
use Rattle.cert_checker.specs.Items.{item_at}
use Rattle.cert_checker.specs.StepEvents.{second_pass_events}
use Rattle.cert_checker.specs.Stands.{Stands}
use Rattle.cert_checker.specs.Usable.{IsUsable}
use Rattle.cert_checker.proofs.names.Passed.{plain_second}
use Rattle.cert_checker.proofs.steps.second_pass.Goals as goal

pub test_jump-requires-clause-jump : goal.test_jump-requires-clause-jump
test_jump-requires-clause-jump c = ap (λ s. (step_of (length c.args.system.now.template) s).kind) c.in-Jump.is

pub test_jump-requires-clause-usable : goal.test_jump-requires-clause-usable
test_jump-requires-clause-usable c = λ k l.
    let rows = length c.args.system.now.template in
    subst (λ kind. IsUsable kind (equations_of c.args.system.now) (item_at rows c.args.step.now k))
    (ap (λ s. (step_of rows s).kind) c.in-Jump.is) (c.requires.usable k l)

pub test_ray-requires-clause-ray : goal.test_ray-requires-clause-ray
test_ray-requires-clause-ray c = ap (λ s. (step_of (length c.args.system.now.template) s).kind) c.in-Ray.is

pub test_ray-requires-clause-usable : goal.test_ray-requires-clause-usable
test_ray-requires-clause-usable c = λ k l.
    let rows = length c.args.system.now.template in
    subst (λ kind. IsUsable kind (equations_of c.args.system.now) (item_at rows c.args.step.now k))
    (ap (λ s. (step_of rows s).kind) c.in-Ray.is) (c.requires.usable k l)

pub returns-in-Plain-clause-answer : goal.returns-in-Plain-clause-answer
returns-in-Plain-clause-answer c = λ z h g.
    let rows = length c.args.system.now.template in
    let S = equations_of c.args.system.now in
    let items = (step_of rows c.args.step.now).items in
    let e : (step_of rows c.args.step.now).kind ≡ Kind.Plain = ap (λ s. (step_of rows s).kind) c.in-Plain.is in
    (tt, ap (λ k. first_stop (second_pass_events k S z items c.args.number 0 items)) e ∙ plain_second S z items c.args.number 0 items)

pub returns-in-Jump-clause-answer : goal.returns-in-Jump-clause-answer
returns-in-Jump-clause-answer c = λ z h g.
    let rows = length c.args.system.now.template in
    let S = equations_of c.args.system.now in
    let items = (step_of rows c.args.step.now).items in
    let e : (step_of rows c.args.step.now).kind ≡ Kind.Jump = ap (λ s. (step_of rows s).kind) c.in-Jump.is in
    subst (λ k. IsRun (λ u. Unit {0}) (second_pass_events k S z items c.args.number 0 items) c.test_jump.result) (sym e)
    (c.test_jump.ensures z h (subst (λ k. Stands S c.args.next.now (put (new_value k) items z)) e g))

pub returns-in-Ray-clause-answer : goal.returns-in-Ray-clause-answer
returns-in-Ray-clause-answer c = λ z h g.
    let rows = length c.args.system.now.template in
    let S = equations_of c.args.system.now in
    let items = (step_of rows c.args.step.now).items in
    let e : (step_of rows c.args.step.now).kind ≡ Kind.Ray = ap (λ s. (step_of rows s).kind) c.in-Ray.is in
    subst (λ k. IsRun (λ u. Unit {0}) (second_pass_events k S z items c.args.number 0 items) c.test_ray.result) (sym e)
    (c.test_ray.ensures z (c.set_rates.ensures.rates S z h))
