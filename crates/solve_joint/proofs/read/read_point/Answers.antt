use Rattle.std.proofs.Common.{◌∙◌, ap₂}
use Rattle.std.proofs.lemmas.Result.{err_from_is_err_and}
use Rattle.base_fractions.specs.Fits.{long_limit}
use Rattle.flow_systems.proofs.Widths.{first_wide_later, first_wide_sooner}
use Rattle.solve_ray.proofs.answers.Gathered.{fault_of}
use Rattle.solve_joint.specs.declared.joined.Joined.TheVariants.{Point}
use Rattle.solve_joint.specs.Layouts.{number_operations, trace_operations}
use Rattle.solve_joint.specs.Readings.{point_operations}
use Rattle.solve_joint.proofs.read.read_point.Goals as goal

pub returns-in_err-to : goal.returns-in_err-to
returns-in_err-to c =
    let q = err_from_is_err_and c.from_residual.result c.from_residual.ensures.1 in
    let os = number_operations c.args.base.now c.args.point.now c.args.rises.now in
    let ps = trace_operations c.args.point.now c.args.rises.now in
    rw (q.1, q.2) (fault_of os (point_operations c.args.base.now c.args.point.now c.args.rises.now) c.in_err-to.field-0.0
    (λ o e. first_wide_sooner long_limit os ps o e) c.in_err-to.ensures)

pub returns-in_err-highs : goal.returns-in_err-highs
returns-in_err-highs c =
    let q = err_from_is_err_and c.from_residual-in_err-highs.result c.from_residual-in_err-highs.ensures.1 in
    let os = number_operations c.args.base.now c.args.point.now c.args.rises.now in
    let ps = trace_operations c.args.point.now c.args.rises.now in
    rw (q.1, q.2) (fault_of ps (point_operations c.args.base.now c.args.point.now c.args.rises.now) c.in_err-highs.field-0.0
    (λ o e. first_wide_later long_limit os ps c.in_ok-to.ensures.1 ∙ e) c.in_err-highs.ensures)

pub returns : goal.returns
returns c =
    let os = number_operations c.args.base.now c.args.point.now c.args.rises.now in
    let ps = trace_operations c.args.point.now c.args.rises.now in (
      ap₂ (λ a b. Point a b) c.in_ok-to.ensures.0 c.in_ok-highs.ensures.0,
      first_wide_later long_limit os ps c.in_ok-to.ensures.1 ∙ c.in_ok-highs.ensures.1,
    )
