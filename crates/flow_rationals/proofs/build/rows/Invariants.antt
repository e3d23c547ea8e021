use Rattle.std.proofs.Common.{◌≡◌, ◌+◌, map, pos}
use Rattle.std.specs.List.{range_with_len}
use Rattle.flow_templates.specs.Domains.{multiple}
use Rattle.flow_rationals.proofs.build.rows.Given as goal

abbrev pub invariant-loop-name : goal.invariant-loop-name
invariant-loop-name l = l.rows.items ≡ map (multiple (l.fn.names + 1) (pos 1)) (range_with_len 0 l.name)
