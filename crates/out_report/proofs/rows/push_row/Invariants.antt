use Rattle.std.proofs.Common.{◌≡◌, ◌++◌, drop}
use Rattle.flow_systems.specs.Report.{row_text}
use Rattle.out_report.specs.Terms.{rest_text}
use Rattle.out_report.proofs.rows.push_row.Given as goal

abbrev pub invariant-loop-index : goal.invariant-loop-index
invariant-loop-index l = l.text.items ++ rest_text l.is_first (drop l.index l.names) (drop l.index l.row)
    ≡ l.initial.text.items ++ row_text l.names l.row
