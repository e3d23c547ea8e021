use Rattle.std.proofs.Common.{◌≡◌, ◌++◌}
use Rattle.std.specs.List.{range_with_len, flat_map}
use Rattle.flow_templates.specs.Domains.{intervals_of, difference}
use Rattle.flow_templates.proofs.domains.zone_rows.Given as goal

abbrev pub invariant-loop-first : goal.invariant-loop-first
invariant-loop-first l = l.rows.items ≡ intervals_of l.fn.vars ++ flat_map
    (λ i. flat_map (difference l.fn.vars i) (range_with_len 0 l.fn.vars)) (range_with_len 0 l.first)
