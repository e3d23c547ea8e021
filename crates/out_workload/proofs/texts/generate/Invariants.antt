use Rattle.out_workload.proofs.texts.TextSteps.{IsBegun}
use Rattle.out_workload.proofs.texts.generate.Given as goal

abbrev pub invariant-loop : goal.invariant-loop
invariant-loop l = IsBegun l.fn.seed l.loops l.text.items l.state l.counter
