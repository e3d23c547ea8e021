use Rattle.std.proofs.Common.{◌≡◌, drop}
use Rattle.std.specs.List.{flat_map}
use Rattle.flow_rationals.specs.EquFaults.{equation_faults}
use Rattle.flow_rationals.proofs.reading.checks.sides_fault.Given as goal

abbrev pub invariant-loop-equation : goal.invariant-loop-equation
invariant-loop-equation l =
    flat_map (equation_faults l.equations) l.equations ≡ flat_map (equation_faults l.equations) (drop l.equation-index l.equations)
