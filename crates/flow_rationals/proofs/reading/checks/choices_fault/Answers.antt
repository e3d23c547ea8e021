use Rattle.std.proofs.Common.{sym}
use Rattle.flow_rationals.specs.EquFaults.{choice_faults}
use Rattle.flow_rationals.proofs.equ_faults.First.{flat_some}
use Rattle.flow_rationals.proofs.reading.checks.choices_fault.Goals as goal

pub returns-then-is_some : goal.returns-then-is_some
returns-then-is_some c =
    flat_some (choice_faults c.args.equations.now) c.args.choices.now c.loop-choice.choice-index c.choice-item.result
    c.choice_fault-fault.result
    c.loop-choice-test.true c.choice-item.is c.loop-choice.invariant (sym c.if-is_some.ensures) c.choice_fault-fault.ensures
