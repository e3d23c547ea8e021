use Rattle.std.proofs.Common.{◌≡◌, ◌++◌, drop, false, nat_lt}
use Rattle.serde_json.specs.Written.{items_text}
use Rattle.out_report.specs.Points.{bounds_from}
use Rattle.out_json.specs.Reports.{row_bounds}
use Rattle.out_json.proofs.points.push_rows.Given as goal

abbrev pub invariant-loop-index : goal.invariant-loop-index
invariant-loop-index l =
    l.out.items ++ items_text (nat_lt 0 l.index) (row_bounds l.index (drop l.index l.rows) (bounds_from l.bounds l.first))
    ≡ l.initial.out.items ++ items_text false (row_bounds 0 l.rows (bounds_from l.bounds l.first))
