use Rattle.std.proofs.Common.{◌≡◌, take, map}
use Rattle.source_constants.specs.Parts.{part_of}
use Rattle.source_constants.proofs.part.parts_of.Given as goal

abbrev pub invariant-loop-token : goal.invariant-loop-token
invariant-loop-token l = l.parts.items ≡ map (part_of l.text) (take l.token-index l.tokens)
