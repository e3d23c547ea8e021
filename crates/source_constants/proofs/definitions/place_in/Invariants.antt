use Rattle.std.proofs.Common.{◌≡◌, ◌+◌, drop}
use Rattle.source_constants.specs.Definitions.{place_in}
use Rattle.source_constants.proofs.definitions.place_in.Given as goal

abbrev pub invariant-loop-index : goal.invariant-loop-index
invariant-loop-index l = place_in l.at l.definitions ≡ l.index + place_in l.at (drop l.index l.definitions)
