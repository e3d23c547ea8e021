use Rattle.lp_theory.proofs.Evidence.{ray_points, ray_exceeds}
use Rattle.lp_theory.proofs.problem.ray_has_no_bound.Goals as goal

pub returns-clause-points : goal.returns-clause-points
returns-clause-points c = ray_points

pub returns-clause-exceeds : goal.returns-clause-exceeds
returns-clause-exceeds c = ray_exceeds
