use Rattle.std.proofs.Common.{◌≡◌, false, take}
use Rattle.std.specs.List.{list_any}
use Rattle.source_constants.specs.Definitions.{is_clash}
use Rattle.source_constants.proofs.definitions.clashes.Given as goal

abbrev pub invariant-loop-other : goal.invariant-loop-other
invariant-loop-other l = list_any (is_clash l.one) (take l.other-index l.definitions) ≡ false
