use Rattle.std.proofs.Common.{◌≡◌}
use Rattle.lang_tree.specs.Tree.{nil}
use Rattle.lang_tree.specs.View.{deeds_of, statements_of}
use Rattle.source_core.specs.Core.{followed_by, behind}
use Rattle.source_change.proofs.pushed.push_deeds.Given as goal

abbrev pub invariant-loop-deed : goal.invariant-loop-deed
invariant-loop-deed l = statements_of l.out.items ≡ followed_by (statements_of l.initial.out.items) (behind (deeds_of l.yielded) nil)
