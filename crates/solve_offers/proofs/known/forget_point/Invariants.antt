use Rattle.solve_offers.proofs.known.Forgotten.{ForgottenTo}
use Rattle.solve_offers.proofs.known.forget_point.Given as goal

abbrev pub invariant-loop-place : goal.invariant-loop-place
invariant-loop-place l = ForgottenTo l.system l.point l.fn.known l.known l.place
