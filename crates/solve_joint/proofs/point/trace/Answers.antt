use Rattle.std.proofs.Common.{◌≡◌, ◌∙◌, Some, None, ap, subst}
use Rattle.std.proofs.lemmas.Result.{err_from_is_err_and}
use Rattle.flow_systems.proofs.Widths.{first_wide_later, first_wide_sooner}
use Rattle.base_fractions.specs.Fits.{long_limit}
use Rattle.base_fractions.specs.Operation.{first_wide}
use Rattle.solve_ray.specs.Reading.{differences, subtractions, direction_operations}
use Rattle.solve_ray.proofs.answers.Gathered.{fault_of}
use Rattle.solve_joint.proofs.point.PointReads.{same_trace}
use Rattle.solve_joint.proofs.point.trace.Goals as goal

pub returns-in_err-start : goal.returns-in_err-start
returns-in_err-start c =
    let q = err_from_is_err_and c.from_residual.result c.from_residual.ensures.1 in
    let p = c.args.point.now in
    let r = c.args.rise.now in
    rw (q.1, q.2)
    (fault_of (subtractions p c.as_slice.result.now) (direction_operations p r) c.in_err-start.field-0.0
    (λ o e. first_wide_sooner long_limit (subtractions p r.starts) (subtractions p r.frees) o
    (subst (λ cs. first_wide long_limit (subtractions p cs) ≡ Some o) c.as_slice.ensures e)) c.in_err-start.ensures)

pub returns-in_err-free : goal.returns-in_err-free
returns-in_err-free c =
    let q = err_from_is_err_and c.from_residual-in_err-free.result c.from_residual-in_err-free.ensures.1 in
    let p = c.args.point.now in
    let r = c.args.rise.now in
    let fits = subst (λ cs. first_wide long_limit (subtractions p cs) ≡ None) c.as_slice.ensures c.in_ok-start.ensures.1 in
    rw (q.1, q.2)
    (fault_of (subtractions p c.as_slice-2.result.now) (direction_operations p r) c.in_err-free.field-0.0
    (λ o e. first_wide_later long_limit (subtractions p r.starts) (subtractions p r.frees) fits
    ∙ subst (λ cs. first_wide long_limit (subtractions p cs) ≡ Some o) c.as_slice-2.ensures e) c.in_err-free.ensures)

pub returns : goal.returns
returns c =
    let p = c.args.point.now in
    let r = c.args.rise.now in
    let start = subst (λ cs. first_wide long_limit (subtractions p cs) ≡ None) c.as_slice.ensures c.in_ok-start.ensures.1 in
    let free = subst (λ cs. first_wide long_limit (subtractions p cs) ≡ None) c.as_slice-2.ensures c.in_ok-free.ensures.1 in (
      same_trace _ _ _ _ (c.in_ok-start.ensures.0 ∙ ap (differences p) c.as_slice.ensures)
          (c.in_ok-free.ensures.0 ∙ ap (differences p) c.as_slice-2.ensures),
      first_wide_later long_limit (subtractions p r.starts) (subtractions p r.frees) start ∙ free,
    )
