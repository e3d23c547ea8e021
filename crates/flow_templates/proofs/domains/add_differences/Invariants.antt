use Rattle.std.proofs.Common.{◌≡◌, ◌++◌}
use Rattle.std.specs.List.{range_with_len, flat_map}
use Rattle.flow_templates.specs.Domains.{difference}
use Rattle.flow_templates.proofs.domains.add_differences.Given as goal

abbrev pub invariant-loop-second : goal.invariant-loop-second
invariant-loop-second l = l.rows.items ≡ l.fn.rows.items ++ flat_map (difference l.fn.vars l.fn.first) (range_with_len 0 l.second)
