use Rattle.solve_offers.proofs.offers.Offered.{value, BestSoFar}
use Rattle.solve_offers.proofs.policy.best.Given as goal

abbrev pub invariant-loop-k : goal.invariant-loop-k
invariant-loop-k l = BestSoFar (value l.values) l.best l.k
