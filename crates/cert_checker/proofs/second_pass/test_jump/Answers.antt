use Rattle.std.proofs.Common.{◌<◌, length, arith}
use Rattle.std.proofs.lemmas.Result.{err_from_is_err_and}
use Rattle.flow_systems.specs.View.{equations_of}
use Rattle.cert_types.specs.Certificates.{step_of}
use Rattle.theory_validity.specs.Steps.{Kind, new_value, put}
use Rattle.cert_checker.proofs.names.Items.{items_count, second_stops, second_more, second_all}
use Rattle.cert_checker.proofs.second_pass.test_jump.Goals as goal

pub returns-in_err-test_jump_item : goal.returns-in_err-test_jump_item
returns-in_err-test_jump_item c = λ z h g.
    let p = err_from_is_err_and c.from_residual.result c.from_residual.ensures.1 in
    let S = equations_of c.args.system.now in
    let items = (step_of (length c.args.system.now.template) c.args.step.now).items in
    let e = items_count (length c.args.system.now.template) c.args.step.now in
    let l : c.loop-k.k < length items = omega (arith, e, c.loop-k-test.true, c.count-k-end.ensures) in
    rw (p.1, p.2) (second_stops Kind.Jump S z c.args.number items c.loop-k.k l (c.loop-k.invariant z h g) c.in_err-test_jump_item.field-0.0
    (c.in_err-test_jump_item.ensures z (put (new_value Kind.Jump) items z) h g))

pub loop-k-preserved : goal.loop-k-preserved
loop-k-preserved c = λ z h g.
    let S = equations_of c.args.system.now in
    let items = (step_of (length c.args.system.now.template) c.args.step.now).items in
    let e = items_count (length c.args.system.now.template) c.args.step.now in
    let l : c.loop-k.k < length items = omega (arith, e, c.loop-k-test.true, c.count-k-end.ensures) in
    second_more Kind.Jump S z c.args.number items c.loop-k.k l (c.loop-k.invariant z h g)
    (c.in_ok-test_jump_item.ensures z (put (new_value Kind.Jump) items z) h g).1

pub returns : goal.returns
returns c = λ z h g.
    let S = equations_of c.args.system.now in
    let items = (step_of (length c.args.system.now.template) c.args.step.now).items in
    let e = items_count (length c.args.system.now.template) c.args.step.now in (
      tt,
      second_all Kind.Jump S z c.args.number items c.loop-k.k (let l = c.loop-k-test.false in omega (arith, e, l, c.count-k-end.ensures))
          (c.loop-k.invariant z h g),
    )
