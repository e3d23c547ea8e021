use Rattle.std.proofs.Common.{◌∙◌, ◌+◌, ◌∷◌, []}
use Rattle.std.proofs.lemmas.Result.{err_from_is_err_and}
use Rattle.base_fractions.specs.Fits.{long_limit}
use Rattle.base_fractions.specs.declared.wide.Op.TheVariants.{Add}
use Rattle.lp_theory.specs.Listed.{at}
use Rattle.flow_systems.proofs.Widths.{first_wide_later}
use Rattle.solve_transformer.specs.Splits.{bounds_at}
use Rattle.solve_transformer.specs.Values.{entry_operations}
use Rattle.flow_systems.proofs.Faults.{later}
use Rattle.solve_transformer.proofs.read.Outcomes.{sum_wide, sum_fits, multipliers_read}
use Rattle.solve_transformer.proofs.read.read_best.Goals as goal

pub returns-in_err-value : goal.returns-in_err-value
returns-in_err-value c = λ template e.
    let p = err_from_is_err_and c.from_residual.result c.from_residual.ensures.1 in
    rw (p.1, p.2) (sum_wide c.args.best c.args.constant (entry_operations (c.args.sizes.variables + c.args.sizes.frees)
    (at c.args.point.now)) c.in_err-value.field-0.0 c.in_err-value.ensures)

pub returns-in_err-trace : goal.returns-in_err-trace
returns-in_err-trace c = λ template e.
    let p = err_from_is_err_and c.from_residual-in_err-trace.result c.from_residual-in_err-trace.ensures.1 in
    rw (p.1, p.2)
    (later (record { op = Add; left = c.args.best; right = c.args.constant } ∷ [])
    (entry_operations (c.args.sizes.variables + c.args.sizes.frees) (at c.args.point.now)) c.in_err-trace.field-0.0
    (sum_fits c.args.best c.args.constant c.in_ok-value.value c.in_ok-value.ensures) c.in_err-trace.ensures)

pub returns : goal.returns
returns c = λ template e. (
  (
    c.in_ok-value.ensures.0,
    c.in_ok-trace.ensures.0,
    multipliers_read (bounds_at c.args.source.now) template c.args.sizes.guards c.count_finite-first.result (at c.args.multipliers.now)
        c.in_ok-rows.rows c.in_ok-guards.guards (c.in_ok-rows.ensures template e)
        (c.count_finite-first.ensures.count template e (at c.args.multipliers.now)) c.in_ok-guards.ensures,
  ),
  first_wide_later long_limit (record { op = Add; left = c.args.best; right = c.args.constant } ∷ [])
      (entry_operations (c.args.sizes.variables + c.args.sizes.frees) (at c.args.point.now))
      (sum_fits c.args.best c.args.constant c.in_ok-value.value c.in_ok-value.ensures)
      ∙ c.in_ok-trace.ensures.1,
)
