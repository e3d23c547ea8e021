use Rattle.std.proofs.Common.{◌≡◌}
use Rattle.source_constants.specs.Definitions.{with_all_placed}
use Rattle.source_constants.proofs.definitions.add_all.Given as goal

abbrev pub invariant-loop-definition : goal.invariant-loop-definition
invariant-loop-definition l = l.list.items ≡ with_all_placed l.yielded l.initial.list.items
