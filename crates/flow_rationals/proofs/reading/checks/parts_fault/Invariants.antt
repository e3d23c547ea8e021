use Rattle.std.proofs.Common.{◌≡◌, drop}
use Rattle.std.specs.List.{flat_map}
use Rattle.flow_rationals.specs.EquFaults.{part_faults}
use Rattle.flow_rationals.proofs.reading.checks.parts_fault.Given as goal

abbrev pub invariant-loop-part : goal.invariant-loop-part
invariant-loop-part l = flat_map (part_faults l.equations) l.parts ≡ flat_map (part_faults l.equations) (drop l.part-index l.parts)
