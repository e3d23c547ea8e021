use Rattle.flow_systems.specs.View.{equations_of, vector_at}
use Rattle.ask_checks.proofs.verdicts.Turns.{IsJudgedBefore}
use Rattle.ask_checks.proofs.judge.check_verdict.Given as goal

abbrev pub invariant-loop-number : goal.invariant-loop-number
invariant-loop-number l = IsJudgedBefore (equations_of l.system) (vector_at l.system l.bounds) l.check l.number
