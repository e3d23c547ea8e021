use Rattle.std.proofs.Common.{◌≡◌, ◌+◌, drop}
use Rattle.std.specs.List.{flat_map, enumerate_from}
use Rattle.flow_rationals.specs.EquFaults.{nth_sum_faults}
use Rattle.flow_rationals.proofs.reading.checks.more_fault.Given as goal

abbrev pub invariant-loop-i : goal.invariant-loop-i
invariant-loop-i l =
    flat_map (nth_sum_faults l.equations) (enumerate_from 1 l.sums) ≡ flat_map (nth_sum_faults l.equations)
    (enumerate_from (1 + l.i) (drop l.i l.sums))
