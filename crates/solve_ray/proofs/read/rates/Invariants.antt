use Rattle.solve_ray.specs.Reading.{named_rates, named_operations}
use Rattle.solve_ray.proofs.answers.Gathered.{IsRead}
use Rattle.solve_ray.proofs.read.rates.Given as goal

abbrev pub invariant-loop-rise : goal.invariant-loop-rise
invariant-loop-rise l = IsRead (named_rates l.ray) (named_operations l.ray) l.layout.rises l.rise-index l.list.items
