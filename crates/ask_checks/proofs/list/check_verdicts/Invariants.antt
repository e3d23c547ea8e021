use Rattle.flow_systems.specs.View.{equations_of, vector_at}
use Rattle.ask_verdicts.proofs.lists.Judged.{AreJudged}
use Rattle.ask_checks.specs.Verdicts.{IsCheckVerdict, CheckFits}
use Rattle.ask_checks.proofs.list.check_verdicts.Given as goal

abbrev pub invariant-loop-number : goal.invariant-loop-number
invariant-loop-number l =
    AreJudged (IsCheckVerdict (equations_of l.system) (vector_at l.system l.bounds))
    (CheckFits (equations_of l.system) (vector_at l.system l.bounds)) l.checks l.number l.list.items
