use Rattle.std.proofs.Common.{◌+◌, length, refl, sym, ap, subst, arith}
use Rattle.std.specs.Prelude.{IsTrue}
use Rattle.std.specs.List.{list_all}
use Rattle.std.proofs.lemmas.Result.{err_from_is_err_and}
use Rattle.flow_edges.specs.FlowLimits.{is_action}
use Rattle.flow_systems.specs.View.{equations_of, vector_at}
use Rattle.ask_verdicts.proofs.firsts.Firsts.{none_lower}
use Rattle.ask_verdicts.specs.Verdicts.{SaysOpen}
use Rattle.ask_checks.specs.Verdicts.{NoneAt}
use Rattle.ask_checks.proofs.places.Sizes.{all_take}
use Rattle.ask_checks.proofs.verdicts.Turns.{IsOpened, on_other, on_refused, on_proved, on_opened}
use Rattle.ask_checks.proofs.judge.edge_verdict.Goals as goal
use Rattle.ask_checks.proofs.judge.edge_verdict.Goals.{In-Open, then-is_check+in_ok-verdict+in-Proved, else-is_check}
use Rattle.lang_tree.specs.declared.limits.TheConstants.{MOST_HIDDEN}

pub verdict-requires-clause-actions : goal.verdict-requires-clause-actions
verdict-requires-clause-actions c =
    let n = length c.args.system.now.flow.names + MOST_HIDDEN in
    all_take (is_action n) c.as_slice-actions.result.now c.loop-place.place
    (subst (λ xs. IsTrue (list_all (is_action n) xs)) (sym c.as_slice-actions.ensures) c.requires.actions)

pub returns-in_err-verdict-clause-refused : goal.returns-in_err-verdict-clause-refused
returns-in_err-verdict-clause-refused c =
    let s = c.args.system.now in
    let p = err_from_is_err_and c.from_residual.result c.from_residual.ensures.1 in
    rw (p.1, p.2)
    (on_refused (equations_of s) (vector_at s c.args.bounds.now) c.args.check.now c.args.edge.now c.loop-place.place c.loop-place.invariant
    c.as_slice-actions.result.now c.as_slice-actions.ensures c.index-actions-place.result c.loop-place-test.true c.index-actions-place.is
    (c.if-is_check.ensures.0 refl) _ refl c.as_slice-against.result.now c.as_slice-against.ensures c.in_err-verdict.field-0.0
    c.in_err-verdict.ensures.refused)

-- the check is open on this edge, at the state that its verdict has
opened : (c : In-Open) → IsOpened (equations_of c.args.system.now) (vector_at c.args.system.now c.args.bounds.now) c.args.check.now
    c.args.edge.now c.in-Open.state
opened c =
    let s = c.args.system.now in
    let says = subst (SaysOpen (equations_of s) (vector_at s c.args.bounds.now) c.args.edge.now.from _ c.as_slice-against.result.now)
    c.in-Open.is
    c.in_ok-verdict.ensures.state in
    on_opened (equations_of s) (vector_at s c.args.bounds.now) c.args.check.now c.args.edge.now c.loop-place.place c.loop-place.invariant
    c.as_slice-actions.result.now c.as_slice-actions.ensures c.index-actions-place.result c.loop-place-test.true c.index-actions-place.is
    (c.if-is_check.ensures.0 refl) _ refl c.as_slice-against.result.now c.as_slice-against.ensures c.in_ok-verdict.ensures.fits
    c.in-Open.state says

pub returns-in-Open-clause-proved : goal.returns-in-Open-clause-proved
returns-in-Open-clause-proved c = (opened (goal.at.returns-in-Open-clause-proved c).In-Open).unproved

pub returns-in-Open-clause-state : goal.returns-in-Open-clause-state
returns-in-Open-clause-state c = (opened (goal.at.returns-in-Open-clause-state c).In-Open).opened

pub returns-in-Open-clause-fits : goal.returns-in-Open-clause-fits
returns-in-Open-clause-fits c = (opened (goal.at.returns-in-Open-clause-fits c).In-Open).fits

pub loop-place-preserved : goal.loop-place-preserved
loop-place-preserved c =
    let s = c.args.system.now in
    elim c.if-is_check.branch [
      | then-is_check+in_ok-verdict+in-Proved w ↦
          on_proved (equations_of s) (vector_at s c.args.bounds.now) c.args.check.now c.args.edge.now c.loop-place.place
          c.loop-place.invariant c.as_slice-actions.result.now c.as_slice-actions.ensures c.index-actions-place.result
          c.loop-place-test.true c.index-actions-place.is (w.if-is_check.ensures.0 refl) _ refl c.as_slice-against.result.now
          c.as_slice-against.ensures w.in_ok-verdict.ensures.fits (w.in_ok-verdict.ensures.proved.0 w.in-Proved.is)
      | else-is_check w ↦
          on_other (equations_of s) (vector_at s c.args.bounds.now) c.args.check.now c.args.edge.now c.loop-place.place
          c.loop-place.invariant c.as_slice-actions.result.now c.as_slice-actions.ensures c.index-actions-place.result
          c.loop-place-test.true c.index-actions-place.is (λ e. let no = w.if-is_check.ensures.1 e in absurd cc)
    ]

pub returns-clause-proved : goal.returns-clause-proved
returns-clause-proved c =
    let s = c.args.system.now in
    let all = ap length c.as_slice-actions.ensures in
    let over = c.loop-place-test.false in
    let none = none_lower (NoneAt (equations_of s) (vector_at s c.args.bounds.now) c.args.check.now c.args.edge.now) c.loop-place.place
    (length c.args.edge.now.actions) c.loop-place.invariant.none_below (omega (arith, all, over)) in
    ((λ e. none), (λ h. refl))
