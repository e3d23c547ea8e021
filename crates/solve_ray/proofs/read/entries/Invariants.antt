use Rattle.solve_ray.specs.Reading.{differences, subtractions}
use Rattle.solve_ray.proofs.answers.Gathered.{IsRead}
use Rattle.solve_ray.proofs.read.entries.Given as goal

abbrev pub invariant-loop-col : goal.invariant-loop-col
invariant-loop-col l = IsRead (differences l.ray) (subtractions l.ray) l.cols l.col-index l.list.items
