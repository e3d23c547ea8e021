use Rattle.std.proofs.Common.{length}
use Rattle.lp_dictionary.specs.Exact.{IsShaped}
use Rattle.test_simplex.proofs.problems.problem_of.Given as goal

abbrev pub invariant-loop-rest : goal.invariant-loop-rest
invariant-loop-rest g l = IsShaped l.problem

abbrev pub decreases-loop-rest : goal.decreases-loop-rest
decreases-loop-rest g l = length l.rest
