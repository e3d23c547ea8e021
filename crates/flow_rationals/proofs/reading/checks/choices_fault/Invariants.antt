use Rattle.std.proofs.Common.{◌≡◌, drop}
use Rattle.std.specs.List.{flat_map}
use Rattle.flow_rationals.specs.EquFaults.{choice_faults}
use Rattle.flow_rationals.proofs.reading.checks.choices_fault.Given as goal

abbrev pub invariant-loop-choice : goal.invariant-loop-choice
invariant-loop-choice l = flat_map (choice_faults l.equations) l.choices
    ≡ flat_map (choice_faults l.equations) (drop l.choice-index l.choices)
