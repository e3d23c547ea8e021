use Rattle.std.proofs.Common.{refl}
use Rattle.theory_validity.specs.Certificates.{num}
use Rattle.solve_joint.proofs.problem.finite.Goals as goal

pub returns-in-Fin : goal.returns-in-Fin
unfolding num
returns-in-Fin c = rw c.in-Fin.is refl

pub returns-in-NegInf : goal.returns-in-NegInf
unfolding num
returns-in-NegInf c = rw c.in-NegInf.is c.zero.ensures.value

pub returns-in-PosInf : goal.returns-in-PosInf
unfolding num
returns-in-PosInf c = rw c.in-PosInf.is c.zero-in-PosInf.ensures.value
