use Rattle.std.proofs.Common.{◌≡◌, drop}
use Rattle.lang_tree.specs.DeedView.{deeds_of}
use Rattle.source_value.specs.Kept.{are_unchecked}
use Rattle.source_value.proofs.prelude.are_unchecked.Given as goal

abbrev pub invariant-loop-deed : goal.invariant-loop-deed
invariant-loop-deed l = are_unchecked (deeds_of (drop l.deed-index l.deeds)) ≡ are_unchecked (deeds_of l.deeds)
