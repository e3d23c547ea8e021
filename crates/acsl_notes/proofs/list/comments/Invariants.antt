use Rattle.std.proofs.Common.{◌≡◌, ◌≤◌, ◌++◌, drop, length}
use Rattle.acsl_notes.specs.View.{comments_left}
use Rattle.acsl_notes.proofs.list.comments.Given as goal

abbrev pub invariant-loop-point : goal.invariant-loop-point
invariant-loop-point l = record {
  within : l.used ≤ length l.anchors;
  comments : l.found.items ++ comments_left l.text l.system l.bounds l.point (drop l.used l.anchors)
      ≡ comments_left l.text l.system l.bounds 0 l.anchors;
}
