use Rattle.std.proofs.Common.{◌≡◌, map, take}
use Rattle.source_file.specs.declared.functions.Defined.{Defined}
use Rattle.source_file.proofs.file.names_of.Given as goal

abbrev pub invariant-loop-function : goal.invariant-loop-function
invariant-loop-function l = l.names.items ≡ map (λ (d : Defined). d.name) (take l.function-index l.functions)
