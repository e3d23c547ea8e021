use Rattle.std.proofs.Common.{◌∙◌, ◌∷◌, [], length, map, refl, sym, subst, arith}
use Rattle.std.proofs.lemmas.Result.{err_from_is_err_and}
use Rattle.solve_ray.specs.Ranges.{IsWithin}
use Rattle.solve_ray.specs.Reading.{direction_operations}
use Rattle.solve_ray.proofs.answers.Gathered.{read_more, read_wide, read_all, fault_of, fault_none}
use Rattle.solve_ray.proofs.reading.NamedRates.{within_at}
use Rattle.solve_joint.specs.Layouts.{trace_at, trace_operations}
use Rattle.solve_joint.proofs.point.PointReads.{adds_trace}
use Rattle.solve_joint.proofs.point.high_traces.Goals as goal

pub trace-requires : goal.trace-requires
trace-requires c =
    let x = c.rise-item.result in
    subst (IsWithin (length c.args.point.now)) (sym c.rise-item.is) (within_at (length c.args.point.now) c.args.rises.now
    c.loop-rise.rise-index x c.requires c.loop-rise-test.true)

pub returns-in_err-trace : goal.returns-in_err-trace
returns-in_err-trace c =
    let q = err_from_is_err_and c.from_residual.result c.from_residual.ensures.1 in
    let point = c.args.point.now in
    let rises = c.args.rises.now in
    let x = c.rise-item.result in
    rw (q.1, q.2)
    (fault_of (direction_operations point x) (trace_operations point rises) c.in_err-trace.field-0.0
    (λ o. read_wide (map (trace_at point)) (trace_operations point) rises c.loop-rise.rise-index c.loop-rise.list.items x
    c.loop-rise.invariant c.loop-rise-test.true c.rise-item.is (trace_at point x ∷ []) (direction_operations point x)
    (adds_trace point x (trace_at point x) refl) o)
    c.in_err-trace.ensures)

pub returns-in_err-append : goal.returns-in_err-append
returns-in_err-append c =
    let p = err_from_is_err_and c.from_residual-in_err-append.result c.from_residual-in_err-append.ensures.1 in
    rw (p.1, p.2) (fault_none (trace_operations c.args.point.now c.args.rises.now) c.in_err-append.field-0.0 c.in_err-append.ensures)

pub loop-rise-preserved : goal.loop-rise-preserved
loop-rise-preserved c =
    let point = c.args.point.now in
    let rises = c.args.rises.now in
    let x = c.rise-item.result in
    rw c.in_ok-append.ensures
    (read_more (map (trace_at point)) (trace_operations point) rises c.loop-rise.rise-index c.loop-rise.list.items x c.loop-rise.invariant
    c.loop-rise-test.true c.rise-item.is (c.in_ok-trace.trace ∷ []) (direction_operations point x)
    (adds_trace point x c.in_ok-trace.trace c.in_ok-trace.ensures.0) c.in_ok-trace.ensures.1)

pub returns : goal.returns
returns c =
    let point = c.args.point.now in
    let a = read_all (map (trace_at point)) (trace_operations point) c.args.rises.now c.loop-rise.rise-index c.loop-rise.list.items refl
    refl (omega arith) c.loop-rise.invariant in
    (c.new.ensures ∙ a.0, a.1)
