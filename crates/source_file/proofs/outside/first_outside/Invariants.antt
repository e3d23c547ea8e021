use Rattle.std.proofs.Common.{◌≡◌, drop}
use Rattle.source_file.specs.Meaning.{first_outside}
use Rattle.source_file.proofs.outside.first_outside.Given as goal

abbrev pub invariant-loop-token : goal.invariant-loop-token
invariant-loop-token l =
    first_outside l.definitions l.text l.tokens ≡ first_outside l.definitions l.text (drop l.token-index l.tokens)
