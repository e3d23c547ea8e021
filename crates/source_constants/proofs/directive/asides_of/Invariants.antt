use Rattle.std.proofs.Common.{◌≡◌, take}
use Rattle.source_constants.specs.Directives.{asides_of}
use Rattle.source_constants.proofs.directive.asides_of.Given as goal

abbrev pub invariant-loop-token : goal.invariant-loop-token
invariant-loop-token l = l.asides.items ≡ asides_of (take l.token-index l.tokens)
