use Rattle.source_value.proofs.numbers.Lists.{IsMade, whole}
use Rattle.source_value.proofs.numbers.multiples_added.Given as goal

abbrev pub invariant-loop-i : goal.invariant-loop-i
invariant-loop-i l = IsMade (whole l.left l.factor l.right) l.list.items l.i
