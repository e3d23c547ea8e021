use Rattle.flow_systems.specs.View.{equations_of, vector_at}
use Rattle.ask_checks.proofs.verdicts.Turns.{IsJudgedOn}
use Rattle.ask_checks.proofs.judge.edge_verdict.Given as goal

abbrev pub invariant-loop-place : goal.invariant-loop-place
invariant-loop-place l = IsJudgedOn (equations_of l.system) (vector_at l.system l.bounds) l.check l.edge l.place
