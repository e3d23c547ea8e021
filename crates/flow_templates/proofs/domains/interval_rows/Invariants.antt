use Rattle.std.proofs.Common.{◌≡◌}
use Rattle.std.specs.List.{range_with_len, flat_map}
use Rattle.flow_templates.specs.Domains.{both_signs}
use Rattle.flow_templates.proofs.domains.interval_rows.Given as goal

abbrev pub invariant-loop-var : goal.invariant-loop-var
invariant-loop-var l = l.rows.items ≡ flat_map (both_signs l.fn.vars) (range_with_len 0 l.var)
