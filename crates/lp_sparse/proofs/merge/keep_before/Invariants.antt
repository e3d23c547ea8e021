use Rattle.std.proofs.Common.{◌-◌, ◌≤◌, length, drop}
use Rattle.lp_dictionary.specs.Entries.{HasNoZero}
use Rattle.lp_sparse.specs.Merge.{MergesOn}
use Rattle.lp_sparse.proofs.merge.keep_before.Given as goal

abbrev pub invariant-loop-place : goal.invariant-loop-place
invariant-loop-place g l =
    let m = g.F.OrderedField.meaning in
    record {
      place : l.place ≤ length l.entries;
      kept : MergesOn m g.F.OrderedField.LIMIT (m l.product) l.col l.until (drop l.i l.entries) (drop l.place l.entries) l.fn.merged.items
          l.merged.items;
      no_zero : HasNoZero m l.fn.merged.items → HasNoZero m l.merged.items;
    }

abbrev pub decreases-loop-place : goal.decreases-loop-place
decreases-loop-place g l = length l.entries - l.place
