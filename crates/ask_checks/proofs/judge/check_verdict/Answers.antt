use Rattle.std.proofs.Common.{length, ap, subst, arith}
use Rattle.flow_systems.specs.View.{equations_of, vector_at}
use Rattle.ask_checks.specs.Verdicts.{SaysOpenOn}
use Rattle.ask_checks.proofs.verdicts.Turns.{all_proved, edge_more, edge_open, edge_open_fits}
use Rattle.ask_checks.proofs.judge.check_verdict.Goals as goal

pub returns-in-Ok-Open-clause-verdict : goal.returns-in-Ok-Open-clause-verdict
returns-in-Ok-Open-clause-verdict c =
    let s = c.args.system.now in
    edge_open (equations_of s) (vector_at s c.args.bounds.now) c.args.check.now c.loop-number.number c.loop-number.invariant
    c.as_slice-edge-items.result.now c.as_slice-edge-items.ensures c.edge-item.result c.loop-number-test.true
    c.edge-item.is
    c.in-Ok-Open.ensures.fits c.in-Ok-Open.state
    (subst (SaysOpenOn (equations_of s) (vector_at s c.args.bounds.now) c.args.check.now c.edge-item.result) c.in-Ok-Open.field-0-is
    c.in-Ok-Open.ensures.state)

pub returns-in-Ok-Open-clause-fits : goal.returns-in-Ok-Open-clause-fits
returns-in-Ok-Open-clause-fits c =
    let s = c.args.system.now in
    edge_open_fits (equations_of s) (vector_at s c.args.bounds.now) c.args.check.now c.loop-number.number c.loop-number.invariant
    c.as_slice-edge-items.result.now c.as_slice-edge-items.ensures c.edge-item.result c.loop-number-test.true
    c.edge-item.is
    c.in-Ok-Open.ensures.fits c.in-Ok-Open.state
    (subst (SaysOpenOn (equations_of s) (vector_at s c.args.bounds.now) c.args.check.now c.edge-item.result) c.in-Ok-Open.field-0-is
    c.in-Ok-Open.ensures.state)

pub loop-number-preserved : goal.loop-number-preserved
loop-number-preserved c =
    let s = c.args.system.now in
    edge_more (equations_of s) (vector_at s c.args.bounds.now) c.args.check.now c.loop-number.number c.loop-number.invariant
    c.as_slice-edge-items.result.now c.as_slice-edge-items.ensures c.edge-item.result c.loop-number-test.true
    c.edge-item.is
    c.in-Ok-Proved.ensures.fits (c.in-Ok-Proved.ensures.proved.0 c.in-Ok-Proved.field-0-is)

pub returns-clause-verdict : goal.returns-clause-verdict
returns-clause-verdict c =
    let s = c.args.system.now in
    let all = ap length c.as_slice-edge-items.ensures in
    let over = c.loop-number-test.false in
    all_proved (equations_of s) (vector_at s c.args.bounds.now) c.args.check.now c.loop-number.number c.loop-number.invariant
    (omega (arith, all, over))
