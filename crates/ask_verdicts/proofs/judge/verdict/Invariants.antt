use Rattle.std.proofs.Common.{[], get_or}
use Rattle.flow_systems.specs.View.{equations_of, vector_at}
use Rattle.ask_verdicts.specs.Breaking.{NoneBreaks}
use Rattle.ask_verdicts.specs.Verdicts.{FitsFor}
use Rattle.ask_verdicts.proofs.firsts.Firsts.{IsPassed}
use Rattle.ask_verdicts.proofs.judge.verdict.Given as goal

abbrev pub invariant-loop-number : goal.invariant-loop-number
invariant-loop-number l =
    IsPassed (λ k. NoneBreaks (equations_of l.system) (vector_at l.system l.bounds) l.point l.before (get_or l.against k []))
    (λ k. FitsFor (equations_of l.system) (vector_at l.system l.bounds) l.point l.before (get_or l.against k [])) l.number
