use Rattle.std.proofs.Common.{map}
use Rattle.solve_ray.proofs.answers.Gathered.{IsRead}
use Rattle.solve_joint.specs.Layouts.{number_at, number_operations}
use Rattle.solve_joint.proofs.point.numbers.Given as goal

abbrev pub invariant-loop-rise : goal.invariant-loop-rise
invariant-loop-rise l = IsRead (map (number_at l.base l.point)) (number_operations l.base l.point) l.rises l.rise-index l.list.items
