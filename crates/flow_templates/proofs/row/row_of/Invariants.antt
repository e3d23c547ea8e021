use Rattle.std.proofs.Common.{◌≡◌, map}
use Rattle.std.specs.List.{range_with_len}
use Rattle.flow_templates.specs.Sums.{coefficient_by}
use Rattle.flow_templates.specs.Kept.{sum_at}
use Rattle.flow_templates.proofs.row.row_of.Given as goal

abbrev pub invariant-loop-i : goal.invariant-loop-i
invariant-loop-i l = l.row.items ≡ map (coefficient_by l.names (sum_at l.sums)) (range_with_len 0 l.i)
