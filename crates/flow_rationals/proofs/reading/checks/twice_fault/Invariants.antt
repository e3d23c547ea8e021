use Rattle.std.proofs.Common.{◌≡◌, ◌+◌, drop}
use Rattle.std.specs.List.{flat_map, enumerate_from}
use Rattle.flow_rationals.specs.EquFaults.{twice_faults}
use Rattle.flow_rationals.proofs.reading.checks.twice_fault.Given as goal

abbrev pub invariant-loop-i : goal.invariant-loop-i
invariant-loop-i l =
    flat_map (twice_faults l.equations) (enumerate_from 0 l.equations)
    ≡ flat_map (twice_faults l.equations) (enumerate_from (0 + l.i) (drop l.i l.equations))
