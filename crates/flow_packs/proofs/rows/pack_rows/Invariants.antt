use Rattle.std.proofs.Common.{◌≡◌, ◌++◌}
use Rattle.std.specs.List.{range_with_len, flat_map}
use Rattle.flow_templates.specs.Domains.{intervals_of}
use Rattle.flow_packs.specs.Packs.{sums_together}
use Rattle.flow_packs.proofs.rows.pack_rows.Given as goal

abbrev pub invariant-loop-first : goal.invariant-loop-first
invariant-loop-first l = l.rows.items ≡ intervals_of l.fn.vars ++ flat_map
    (λ i. flat_map (sums_together l.fn.vars l.fn.groups i) (range_with_len 0 l.fn.vars)) (range_with_len 0 l.first)
