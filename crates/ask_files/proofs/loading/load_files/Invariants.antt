use Rattle.std.proofs.Common.{length, ◌-◌, ◌≡◌, drop, map}
use Rattle.ask_files.specs.Named.{name_of}
use Rattle.ask_files.proofs.loads.Steps.{HasRead}
use Rattle.ask_files.proofs.loading.load_files.Given as goal

abbrev pub invariant-loop-number : goal.invariant-loop-number
invariant-loop-number g l =
    (g.S.Shelf.files l.shelf ≡ g.S.Shelf.files l.initial.shelf)
    × HasRead (g.S.Shelf.files l.initial.shelf) (map name_of l.files) (g.S.Shelf.loads l.initial.shelf) (g.S.Shelf.loads l.shelf)
    (g.S.Shelf.faults l.initial.shelf) (g.S.Shelf.faults l.shelf) (map name_of (drop l.number l.files))

abbrev pub decreases-loop-number : goal.decreases-loop-number
decreases-loop-number g l = length l.files - l.number
