use Rattle.std.proofs.Common.{◌≡◌, ◌++◌, drop}
use Rattle.flow_systems.specs.Report.{row_lines}
use Rattle.out_report.specs.Points.{bounds_from}
use Rattle.out_report.proofs.whole.push_rows.Given as goal

abbrev pub invariant-loop-index : goal.invariant-loop-index
invariant-loop-index l =
    l.text.items ++ row_lines l.names l.index (drop l.index l.rows) (bounds_from l.bounds l.first)
    ≡ l.initial.text.items ++ row_lines l.names 0 l.rows (bounds_from l.bounds l.first)
