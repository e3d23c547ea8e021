use Rattle.std.proofs.Common.{◌∙◌, ◌∷◌, ◌++◌, [], ℤ, List, ap, ap₂, sym, subst}
use Rattle.std.proofs.lemmas.List.{map_more}
use Rattle.std.proofs.lemmas.Result.{err_from_is_err_and}
use Rattle.base_fractions.specs.Fits.{long_limit}
use Rattle.base_fractions.specs.Operation.{first_wide}
use Rattle.theory_validity.specs.Words.{combined}
use Rattle.solve_composition.specs.Composed.{dense}
use Rattle.solve_composition.specs.Operations.{row_composition}
use Rattle.flow_systems.specs.Faults.{IsFaultOf}
use Rattle.solve_composition.proofs.faults.Passed.{passed_more, passed_refused}
use Rattle.solve_composition.proofs.edge.compose_rows.Goals as goal

pub returns-in_err-compose_row : goal.returns-in_err-compose_row
returns-in_err-compose_row c = λ forms e.
    let p = err_from_is_err_and c.from_residual-in_err-compose_row.result c.from_residual-in_err-compose_row.ensures.1 in
    rw (p.1, p.2)
    (passed_refused (row_composition c.args.width forms) c.args.template.now c.loop-row.row-index (c.loop-row.invariant.passed forms e)
    c.row-item.result c.loop-row-test.true c.row-item.is c.in_err-compose_row.field-0.0
    (subst (λ (row : List ℤ). IsFaultOf (row_composition c.args.width forms row) c.in_err-compose_row.field-0.0) c.as_slice.ensures.list
    (c.in_err-compose_row.ensures forms e)))

pub loop-row-preserved : goal.loop-row-preserved
loop-row-preserved c = record {
  list = λ forms e.
      c.in_ok-push.ensures.items
      ∙ ap₂ (λ xs x. xs ++ x ∷ []) (c.loop-row.invariant.list forms e)
      ((c.in_ok-compose_row.ensures forms e).0 ∙ ap (λ (row : List ℤ). dense c.args.width (combined row forms))
      (c.as_slice.ensures.list ∙ c.row-item.is))
      ∙ sym (map_more (λ row. dense c.args.width (combined row forms)) c.args.template.now c.loop-row.row-index c.row-item.result
      c.loop-row-test.true);
  passed = λ forms e.
      passed_more (row_composition c.args.width forms) c.args.template.now c.loop-row.row-index (c.loop-row.invariant.passed forms e)
      c.row-item.result c.loop-row-test.true c.row-item.is
      (ap (λ (row : List ℤ). first_wide long_limit (row_composition c.args.width forms row)) (sym c.as_slice.ensures.list)
      ∙ (c.in_ok-compose_row.ensures forms e).1);
}
