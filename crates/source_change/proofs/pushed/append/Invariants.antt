use Rattle.std.proofs.Common.{◌≡◌, ◌++◌}
use Rattle.lang_tree.specs.DeedView.{deeds_of}
use Rattle.source_change.proofs.pushed.append.Given as goal

abbrev pub invariant-loop-deed : goal.invariant-loop-deed
invariant-loop-deed l = deeds_of l.deeds.items ≡ deeds_of l.initial.deeds.items ++ deeds_of l.yielded
