use Rattle.std.proofs.Common.{◌∙◌, ◌∷◌, ◌++◌, [], append_assoc, map, take, ap, ap₂, sym}
use Rattle.std.proofs.lemmas.List.{map_more}
use Rattle.std.proofs.lemmas.Result.{err_from_is_err_and}
use Rattle.theory_validity.specs.Words.{composed}
use Rattle.solve_composition.specs.Composed.{dense}
use Rattle.solve_composition.specs.Operations.{form_composition}
use Rattle.solve_composition.proofs.faults.Passed.{passed_more, passed_refused}
use Rattle.solve_composition.proofs.placed.add_guards.Goals as goal

pub returns-in_err-compose_form : goal.returns-in_err-compose_form
returns-in_err-compose_form c = λ forms e.
    let p = err_from_is_err_and c.from_residual.result c.from_residual.ensures.1 in
    rw (p.1, p.2)
    (passed_refused (form_composition c.args.width forms) c.args.guards.now c.loop-guard.guard-index (c.loop-guard.invariant.passed forms e)
    c.guard-item.result c.loop-guard-test.true c.guard-item.is c.in_err-compose_form.field-0.0 (c.in_err-compose_form.ensures forms e))

pub loop-guard-preserved : goal.loop-guard-preserved
loop-guard-preserved c = record {
  made = λ forms e.
      c.in_ok-push.ensures.items
      ∙ ap₂ (λ xs x. xs ++ x ∷ []) (c.loop-guard.invariant.made forms e)
      ((c.in_ok-compose_form.ensures forms e).0 ∙ ap (λ guard. dense c.args.width (composed guard forms)) c.guard-item.is)
      ∙ append_assoc c.args.list.now.items (map (λ guard. dense c.args.width (composed guard forms))
      (take c.loop-guard.guard-index c.args.guards.now)) _
      ∙ ap (λ xs. c.args.list.now.items ++ xs) (sym (map_more (λ guard. dense c.args.width (composed guard forms)) c.args.guards.now
      c.loop-guard.guard-index c.guard-item.result c.loop-guard-test.true));
  passed = λ forms e.
      passed_more (form_composition c.args.width forms) c.args.guards.now c.loop-guard.guard-index (c.loop-guard.invariant.passed forms e)
      c.guard-item.result c.loop-guard-test.true c.guard-item.is (c.in_ok-compose_form.ensures forms e).1;
}
