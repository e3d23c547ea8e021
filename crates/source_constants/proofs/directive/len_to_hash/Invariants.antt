use Rattle.std.proofs.Common.{◌≡◌, ◌+◌, drop}
use Rattle.source_constants.specs.Directives.{len_to_hash}
use Rattle.source_constants.proofs.directive.len_to_hash.Given as goal

abbrev pub invariant-loop-index : goal.invariant-loop-index
invariant-loop-index l = len_to_hash l.tokens ≡ l.index + len_to_hash (drop l.index l.tokens)
