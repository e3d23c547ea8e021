use Rattle.std.proofs.Common.{◌≡◌, take}
use Rattle.flow_rationals.specs.EquFaults.{choice_count}
use Rattle.flow_rationals.proofs.reading.checks.choice_count.Given as goal

abbrev pub invariant-loop-equation : goal.invariant-loop-equation
invariant-loop-equation l = l.count ≡ choice_count (take l.equation-index l.equations)
