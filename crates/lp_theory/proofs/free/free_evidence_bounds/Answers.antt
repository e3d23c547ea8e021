use Rattle.lp_theory.proofs.FreePrograms.{free_weak_best, free_weak_empty}
use Rattle.lp_theory.proofs.free.free_evidence_bounds.Goals as goal

pub returns-clause-best : goal.returns-clause-best
returns-clause-best c = free_weak_best

pub returns-clause-empty : goal.returns-clause-empty
returns-clause-empty c = free_weak_empty
