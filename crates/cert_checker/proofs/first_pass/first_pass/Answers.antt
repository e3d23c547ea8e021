use Rattle.std.proofs.Common.{◌<◌, length, arith}
use Rattle.std.proofs.lemmas.Result.{err_from_is_err_and}
use Rattle.flow_systems.specs.View.{equations_of}
use Rattle.cert_types.specs.Certificates.{step_of}
use Rattle.cert_checker.proofs.names.Items.{items_count, first_none, first_stops, first_more, first_all}
use Rattle.cert_checker.proofs.first_pass.first_pass.Goals as goal

pub returns-in_err-test_item : goal.returns-in_err-test_item
returns-in_err-test_item c = λ z h.
    let p = err_from_is_err_and c.from_residual.result c.from_residual.ensures.1 in
    let S = equations_of c.args.system.now in
    let theirs = step_of (length c.args.system.now.template) c.args.step.now in
    let e = items_count (length c.args.system.now.template) c.args.step.now in
    let l : c.loop-k.k < length theirs.items = omega (arith, e, c.loop-k-test.true, c.count-k-end.ensures) in
    rw (p.1, p.2) (first_stops theirs.kind S z c.args.number theirs.items c.loop-k.k l (c.loop-k.invariant z h) c.in_err-test_item.field-0.0
    (c.in_err-test_item.ensures z h))

pub loop-k-preserved : goal.loop-k-preserved
loop-k-preserved c = λ z h.
    let S = equations_of c.args.system.now in
    let theirs = step_of (length c.args.system.now.template) c.args.step.now in
    let e = items_count (length c.args.system.now.template) c.args.step.now in
    let l : c.loop-k.k < length theirs.items = omega (arith, e, c.loop-k-test.true, c.count-k-end.ensures) in
    first_more theirs.kind S z c.args.number theirs.items c.loop-k.k l (c.loop-k.invariant z h) (c.in_ok-test_item.ensures z h).1

pub returns : goal.returns
returns c = λ z h.
    let S = equations_of c.args.system.now in
    let theirs = step_of (length c.args.system.now.template) c.args.step.now in
    let e = items_count (length c.args.system.now.template) c.args.step.now in (
      tt,
      first_all theirs.kind S z c.args.number theirs.items c.loop-k.k
          (let l = c.loop-k-test.false in omega (arith, e, l, c.count-k-end.ensures)) (c.loop-k.invariant z h),
    )

pub loop-k-init : goal.loop-k-init
loop-k-init c = λ z h.
    let theirs = step_of (length c.args.system.now.template) c.args.step.now in
    first_none theirs.kind (equations_of c.args.system.now) z c.args.number theirs.items
