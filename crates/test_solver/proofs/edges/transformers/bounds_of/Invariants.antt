use Rattle.flow_systems.specs.View.{IsVectorOf}
use Rattle.test_solver.proofs.edges.transformers.bounds_of.Given as goal

abbrev pub invariant-loop-at : goal.invariant-loop-at
invariant-loop-at l = IsVectorOf l.system l.vector
