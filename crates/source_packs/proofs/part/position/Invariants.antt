use Rattle.std.proofs.Common.{◌≡◌, drop}
use Rattle.source_packs.specs.Shapes.{position}
use Rattle.source_packs.proofs.Positions.{shifted}
use Rattle.source_packs.proofs.part.position.Given as goal

abbrev pub invariant-loop-other : goal.invariant-loop-other
invariant-loop-other l =
    (position l.name l.names ≡ shifted l.number (position l.name (drop l.other-index l.names))) × (l.number ≡ l.other-index)
