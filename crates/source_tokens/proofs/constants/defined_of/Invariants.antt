use Rattle.std.proofs.Common.{◌≡◌, take}
use Rattle.std.specs.Option.{option_copied}
use Rattle.source_tokens.specs.Constants.{defined_at}
use Rattle.source_tokens.proofs.constants.defined_of.Given as goal

abbrev pub invariant-loop-definition : goal.invariant-loop-definition
invariant-loop-definition l = option_copied l.last ≡ defined_at (take l.definition-index l.definitions) l.name l.at
