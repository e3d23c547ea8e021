use Rattle.std.proofs.Common.{◌≡◌, ◌++◌, drop}
use Rattle.source_file.specs.Functions.{functions_of}
use Rattle.source_file.proofs.functions.functions_of.Given as goal

abbrev pub invariant-loop-item : goal.invariant-loop-item
invariant-loop-item l =
    l.functions.items ++ functions_of l.text l.tokens (drop l.item-index l.items) ≡ functions_of l.text l.tokens l.items
