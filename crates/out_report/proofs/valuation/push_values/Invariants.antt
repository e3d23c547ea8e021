use Rattle.std.proofs.Common.{◌≡◌, ◌++◌, drop}
use Rattle.out_report.specs.Points.{bounds_from}
use Rattle.out_report.specs.Values.{value_lines}
use Rattle.out_report.proofs.valuation.push_values.Given as goal

abbrev pub invariant-loop-index : goal.invariant-loop-index
invariant-loop-index l =
    l.text.items ++ value_lines l.index (drop l.index l.names) (bounds_from l.bounds l.first)
    ≡ l.initial.text.items ++ value_lines 0 l.names (bounds_from l.bounds l.first)
