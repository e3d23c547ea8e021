use Rattle.std.proofs.Common.{◌≡◌, ◌++◌}
use Rattle.std.specs.List.{range_with_len, flat_map}
use Rattle.flow_packs.specs.Packs.{sums_together}
use Rattle.flow_packs.proofs.rows.add_pairs.Given as goal

abbrev pub invariant-loop-second : goal.invariant-loop-second
invariant-loop-second l =
    l.rows.items ≡ l.fn.rows.items ++ flat_map (sums_together l.fn.vars l.fn.groups l.fn.first) (range_with_len 0 l.second)
