use Rattle.std.proofs.Common.{◌≡◌, Some, take}
use Rattle.source_items.specs.Machine.{State, run, start}
use Rattle.source_items.specs.Standing.{Stands}
use Rattle.source_items.proofs.division.divide.Given as goal

abbrev pub invariant-loop-index : goal.invariant-loop-index
invariant-loop-index l = (st : State) × (run (Some start) (take l.index l.marks) ≡ Some st) × Stands st l.reading l.index
