use Rattle.std.proofs.Common.{sym}
use Rattle.flow_rationals.specs.EquFaults.{equation_faults}
use Rattle.flow_rationals.proofs.equ_faults.First.{flat_some}
use Rattle.flow_rationals.proofs.reading.checks.sides_fault.Goals as goal

pub returns-then-is_some : goal.returns-then-is_some
returns-then-is_some c =
    flat_some (equation_faults c.args.equations.now) c.args.equations.now c.loop-equation.equation-index c.equation-item.result
    c.equation_fault-fault.result
    c.loop-equation-test.true c.equation-item.is c.loop-equation.invariant (sym c.if-is_some.ensures) c.equation_fault-fault.ensures
