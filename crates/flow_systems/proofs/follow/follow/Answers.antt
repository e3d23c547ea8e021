use Rattle.std.specs.Prelude.{Some}
use Rattle.std.proofs.Common.{◌≡◌, ◌∷◌, ◌+◌, ◌<◌, length, map, drop, ap, sym, subst, subst₂, length-drop, arith}
use Rattle.std.proofs.lemmas.List.{take_rest, length-map}
use Rattle.flow_systems.specs.FreeValues.{free_count}
use Rattle.std.proofs.lemmas.Result.{err_from_is_err_and}
use Rattle.base_numbers.specs.Rational.{ℚ}
use Rattle.base_fractions.specs.Fits.{long_limit}
use Rattle.base_fractions.specs.Operation.{first_wide, operation_of}
use Rattle.flow_systems.specs.TraceTests.{StepIs, trace_operations}
use Rattle.flow_systems.proofs.trace_tests.Traced.{free_count-cons, leads_more, leads_fails, leads_wide}
use Rattle.flow_systems.specs.Constants.{action_with}
use Rattle.flow_systems.proofs.follow.WithConstants.{free_with, action_with-at, action_left}
use Rattle.flow_systems.proofs.follow.follow.Goals as goal

pub returns-in-None : goal.returns-in-None
returns-in-None c =
    let i = c.loop-action.action-index in
    let acts = map (action_with c.args.constants) c.args.actions.now in
    let l : i < length acts = subst (λ n. i < n) (sym (length-map c.args.actions.now (action_with c.args.constants)))
    c.loop-action-test.true in
    let s = subst₂ (λ left o. StepIs (action_with c.args.constants c.action-item.result) c.loop-action.state left c.step.new.state o)
    (take_rest c.args.free.now c.loop-action.taken) c.in-None.is c.in_ok-count.ensures in
    leads_fails acts c.args.state.now c.args.free.now i c.loop-action.taken c.loop-action.state c.loop-action.invariant.leads
    (action_with c.args.constants c.action-item.result) l
    (action_with-at c.args.constants c.args.actions.now i c.action-item.result c.loop-action-test.true c.action-item.is)
    (s (drop (i + 1) acts))

pub loop-action-preserved : goal.loop-action-preserved
loop-action-preserved c =
    let i = c.loop-action.action-index in
    let n = c.in-Some.count in
    let acts = map (action_with c.args.constants) c.args.actions.now in
    let l : i < length acts = subst (λ n. i < n) (sym (length-map c.args.actions.now (action_with c.args.constants)))
    c.loop-action-test.true in
    let rest = drop (i + 1) c.args.actions.now in
    let s = subst₂ (λ left o. StepIs (action_with c.args.constants c.action-item.result) c.loop-action.state left c.step.new.state o)
    (take_rest c.args.free.now c.loop-action.taken) c.in-Some.is c.in_ok-count.ensures in
    let next = ap free_count (action_left c.args.actions.now i c.action-item.result c.loop-action-test.true c.action-item.is) in
    let split = free_count-cons c.action-item.result rest in
    let one = free_with c.args.constants c.action-item.result in
    let before = length-drop c.loop-action.taken c.args.free.now in
    let after = length-drop (c.loop-action.taken + n) c.args.free.now in
    record {
      leads = leads_more acts c.args.state.now c.args.free.now i c.loop-action.taken c.loop-action.state c.loop-action.invariant.leads
          (action_with c.args.constants c.action-item.result) l
          (action_with-at c.args.constants c.args.actions.now i c.action-item.result c.loop-action-test.true c.action-item.is) n
          c.step.new.state (s.1 (drop (i + 1) acts));
      count = omega (arith, c.loop-action.invariant.count, c.loop-action.invariant.taken, s.0, one, next, split, before, after);
      taken = omega (arith, c.loop-action.invariant.count, c.loop-action.invariant.taken, s.0, one, next, split, before);
    }

pub returns-in_err-count : goal.returns-in_err-count
returns-in_err-count c =
    let p = err_from_is_err_and c.from_residual.result c.from_residual.ensures.1 in
    let i = c.loop-action.action-index in
    let acts = map (action_with c.args.constants) c.args.actions.now in
    let o = operation_of (λ (q : ℚ). q) c.in_err-count.field-0.0 in
    let l : i < length acts = subst (λ n. i < n) (sym (length-map c.args.actions.now (action_with c.args.constants)))
    c.loop-action-test.true in
    rw (p.1, p.2)
    (leads_wide acts c.args.state.now c.args.free.now i c.loop-action.taken c.loop-action.state c.loop-action.invariant.leads
    (action_with c.args.constants c.action-item.result) l
    (action_with-at c.args.constants c.args.actions.now i c.action-item.result c.loop-action-test.true c.action-item.is) o
    (λ row. subst (λ left. first_wide long_limit (trace_operations (action_with c.args.constants c.action-item.result ∷ drop (i + 1) acts)
    c.loop-action.state left row) ≡ Some o) (take_rest c.args.free.now c.loop-action.taken)
    (c.in_err-count.ensures (drop (i + 1) acts) row)))
