use Rattle.std.proofs.Common.{◌∙◌, ◌+◌}
use Rattle.std.proofs.lemmas.Result.{err_from_is_err_and}
use Rattle.base_fractions.specs.Fits.{long_limit}
use Rattle.lp_theory.specs.Listed.{at}
use Rattle.flow_systems.proofs.Widths.{first_wide_later}
use Rattle.solve_transformer.specs.Values.{entry_operations}
use Rattle.flow_systems.proofs.Faults.{sooner, later}
use Rattle.solve_transformer.proofs.read.read_unbounded.Goals as goal

pub returns-in_err-trace : goal.returns-in_err-trace
returns-in_err-trace c = λ constant bounds template.
    let p = err_from_is_err_and c.from_residual.result c.from_residual.ensures.1 in
    let w = c.args.sizes.variables + c.args.sizes.frees in
    rw (p.1, p.2) (sooner (entry_operations w (at c.args.point.now)) (entry_operations w (at c.args.ray.now)) c.in_err-trace.field-0.0
    c.in_err-trace.ensures)

pub returns-in_err-direction : goal.returns-in_err-direction
returns-in_err-direction c = λ constant bounds template.
    let p = err_from_is_err_and c.from_residual-in_err-direction.result c.from_residual-in_err-direction.ensures.1 in
    let w = c.args.sizes.variables + c.args.sizes.frees in
    rw (p.1, p.2) (later (entry_operations w (at c.args.point.now)) (entry_operations w (at c.args.ray.now)) c.in_err-direction.field-0.0
    c.in_ok-trace.ensures.1 c.in_err-direction.ensures)

pub returns : goal.returns
returns c = λ constant bounds template.
    let w = c.args.sizes.variables + c.args.sizes.frees in (
      (c.in_ok-trace.ensures.0, c.in_ok-direction.ensures.0),
      first_wide_later long_limit (entry_operations w (at c.args.point.now))
          (entry_operations w (at c.args.ray.now)) c.in_ok-trace.ensures.1 ∙ c.in_ok-direction.ensures.1,
    )
