use Rattle.std.proofs.Common.{◌≡◌, true}
use Rattle.lang_tree.specs.DeedView.{condition_of, deeds_of}
use Rattle.source_core.specs.Preludes.{all_under}
use Rattle.source_value.specs.Kept.{have_small}
use Rattle.source_value.proofs.prelude.all_under.Given as goal

abbrev pub invariant-loop-deed : goal.invariant-loop-deed
invariant-loop-deed l = (deeds_of l.list.items ≡ all_under (condition_of l.above) (deeds_of l.yielded))
    × (have_small (deeds_of l.list.items) ≡ true)
