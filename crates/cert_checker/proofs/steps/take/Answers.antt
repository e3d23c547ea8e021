use Rattle.std.proofs.Common.{length}
use Rattle.std.specs.Prelude.{Some, None}
use Rattle.std.proofs.lemmas.Result.{err_from_is_err_and}
use Rattle.flow_systems.specs.View.{equations_of}
use Rattle.cert_types.specs.Certificates.{step_of}
use Rattle.theory_validity.specs.Steps.{after_step}
use Rattle.cert_checker.proofs.names.Passed.{step_first, step_second}
use Rattle.cert_checker.proofs.steps.Usable.{usable_all}
use Rattle.cert_checker.proofs.steps.take.Goals as goal

pub second_pass-requires-clause-usable : goal.second_pass-requires-clause-usable
second_pass-requires-clause-usable c = λ k l.
    usable_all (equations_of c.args.system.now) c.args.base.now c.requires.base c.args.step.now c.args.number
    (λ z h. (c.in_ok-first_pass.ensures z h).1) k l

pub returns-in_err-first_pass-clause-taken : goal.returns-in_err-first_pass-clause-taken
returns-in_err-first_pass-clause-taken c = λ z h g.
    let p = err_from_is_err_and c.from_residual.result c.from_residual.ensures.1 in
    let theirs = step_of (length c.args.system.now.template) c.args.step.now in
    rw (p.1, p.2) (step_first (equations_of c.args.system.now) z c.args.number theirs c.in_err-first_pass.field-0.0
    (c.in_err-first_pass.ensures z h))

pub returns-in_err-second_pass-clause-taken : goal.returns-in_err-second_pass-clause-taken
returns-in_err-second_pass-clause-taken c = λ z h g.
    let S = equations_of c.args.system.now in
    let p = err_from_is_err_and c.from_residual-in_err-second_pass.result c.from_residual-in_err-second_pass.ensures.1 in
    let theirs = step_of (length c.args.system.now.template) c.args.step.now in
    rw (p.1, p.2) (step_second S z c.args.number theirs (Some c.in_err-second_pass.field-0.0) (c.in_ok-first_pass.ensures z h).1
    (c.in_err-second_pass.ensures.answer z h (c.set_new_bounds.ensures.settled S z g)))

pub returns-clause-taken : goal.returns-clause-taken
unfolding after_step
returns-clause-taken c = λ z h g.
    let S = equations_of c.args.system.now in
    let theirs = step_of (length c.args.system.now.template) c.args.step.now in (
      c.set_new_bounds-2.ensures.settled S z h,
      c.set_new_bounds.ensures.settled S z g,
      step_second S z c.args.number theirs None (c.in_ok-first_pass.ensures z h).1
          (c.in_ok-second_pass.ensures.answer z h (c.set_new_bounds.ensures.settled S z g)).1,
    )
