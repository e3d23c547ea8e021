use Rattle.std.proofs.Common.{◌+◌, drop, ap, subst, length-drop, arith}
use Rattle.std.proofs.lemmas.List.{take_rest}
use Rattle.flow_systems.specs.FreeValues.{free_count}
use Rattle.flow_systems.proofs.trace_tests.Traced.{free_count-cons}
use Rattle.solve_raise.specs.Carries.{StepIs}
use Rattle.solve_raise.proofs.carry.Carrying.{next_actions, leads_more}
use Rattle.solve_raise.proofs.carry.follow.Goals as goal

pub loop-action-preserved : goal.loop-action-preserved
loop-action-preserved c =
    let i = c.loop-action.action-index in
    let n = c.in_ok-taken.field-0 in
    let rest = drop (i + 1) c.args.actions.now in
    let s = subst (λ left. StepIs c.args.constants c.action-item.result c.loop-action.state left c.step.new.state n)
    (take_rest c.args.free.now c.loop-action.taken) c.in_ok-taken.ensures in
    let next = ap free_count (next_actions c.args.constants c.args.actions.now c.args.state.now c.args.free.now i c.loop-action.taken
    c.loop-action.state c.loop-action.invariant.leads c.action-item.result c.loop-action-test.true c.action-item.is) in
    let split = free_count-cons c.action-item.result rest in
    let before = length-drop c.loop-action.taken c.args.free.now in
    let after = length-drop (c.loop-action.taken + n) c.args.free.now in
    record {
      leads = leads_more c.args.constants c.args.actions.now c.args.state.now c.args.free.now i c.loop-action.taken c.loop-action.state
          c.loop-action.invariant.leads c.action-item.result c.loop-action-test.true c.action-item.is n c.step.new.state (s.1 rest);
      count = omega (arith, c.loop-action.invariant.count, c.loop-action.invariant.taken, s.0, next, split, before, after);
      taken = omega (arith, c.loop-action.invariant.count, c.loop-action.invariant.taken, s.0, next, split, before);
    }
