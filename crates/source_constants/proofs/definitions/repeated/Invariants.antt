use Rattle.std.proofs.Common.{◌≡◌, [], take, drop}
use Rattle.source_constants.specs.Definitions.{repeated}
use Rattle.source_constants.proofs.definitions.repeated.Given as goal

abbrev pub invariant-loop-index : goal.invariant-loop-index
invariant-loop-index l = repeated (take l.index l.definitions) (drop l.index l.definitions) ≡ repeated [] l.definitions
