use Rattle.std.proofs.Common.{arith}
use Rattle.solve_joint.proofs.joint_problem.EdgeSizes.{names_within}
use Rattle.solve_joint.proofs.joint_rows.push_limits.Goals as goal

pub push_sources-requires-clause-fits : goal.push_sources-requires-clause-fits
push_sources-requires-clause-fits c = omega (arith, names_within c.args.at.now.system.now c.args.edge, c.requires.fits)
