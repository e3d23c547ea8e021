use Rattle.std.proofs.Common.{◌≡◌, take}
use Rattle.source_constants.specs.Directives.{code_of}
use Rattle.source_constants.proofs.directive.code_of.Given as goal

abbrev pub invariant-loop-token : goal.invariant-loop-token
invariant-loop-token l = l.code.items ≡ code_of (take l.token-index l.tokens)
