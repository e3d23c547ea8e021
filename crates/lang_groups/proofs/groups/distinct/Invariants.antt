use Rattle.std.proofs.Common.{◌≡◌, drop}
use Rattle.lang_groups.specs.Kept.{distinct, distinct_behind}
use Rattle.lang_groups.proofs.groups.distinct.Given as goal

abbrev pub invariant-loop-x : goal.invariant-loop-x
invariant-loop-x l = distinct_behind l.group.items (drop l.x-index l.list) ≡ distinct l.list
