use Rattle.std.proofs.Common.{◌≡◌, ◌+◌, drop}
use Rattle.source_constants.specs.Enumerations.{inside_len}
use Rattle.source_constants.proofs.enumeration.inside_len.Given as goal

abbrev pub invariant-loop-index : goal.invariant-loop-index
invariant-loop-index l = inside_len l.parts ≡ l.index + inside_len (drop l.index l.parts)
