use Rattle.flow_systems.specs.View.{equations_of, vector_at}
use Rattle.ask_verdicts.proofs.lists.Judged.{AreJudged}
use Rattle.ask_claims.specs.AllVerdicts.{IsClaimVerdict, ClaimFits}
use Rattle.ask_claims.proofs.list.verdicts.Given as goal

abbrev pub invariant-loop-number : goal.invariant-loop-number
invariant-loop-number l =
    AreJudged (IsClaimVerdict (equations_of l.system) (vector_at l.system l.bounds))
    (ClaimFits (equations_of l.system) (vector_at l.system l.bounds)) l.claims l.number l.list.items
