use Rattle.std.proofs.Common.{◌+◌, sym, arith}
use Rattle.flow_rationals.specs.EquFaults.{nth_sum_faults}
use Rattle.flow_rationals.proofs.equ_faults.First.{numbered_some}
use Rattle.flow_rationals.proofs.reading.checks.more_fault.Goals as goal

pub returns-then-is_some : goal.returns-then-is_some
returns-then-is_some c =
    numbered_some (nth_sum_faults c.args.equations.now) 1 c.args.sums.now c.loop-i.i (c.loop-i.i + 1) c.index-sums-i.result
    c.nth_fault-fault.result
    c.loop-i-test.true c.index-sums-i.is c.loop-i.invariant (sym c.if-is_some.ensures) (omega arith) c.nth_fault-fault.ensures
