use Rattle.std.proofs.Common.{map}
use Rattle.solve_ray.proofs.answers.Gathered.{IsRead}
use Rattle.solve_joint.specs.Layouts.{trace_at, trace_operations}
use Rattle.solve_joint.proofs.point.high_traces.Given as goal

abbrev pub invariant-loop-rise : goal.invariant-loop-rise
invariant-loop-rise l = IsRead (map (trace_at l.point)) (trace_operations l.point) l.rises l.rise-index l.list.items
