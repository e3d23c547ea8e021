use Rattle.std.proofs.Common.{◌≡◌, ◌++◌, drop, false, nat_lt}
use Rattle.serde_json.specs.Written.{items_text}
use Rattle.out_json.specs.Reports.{row_values}
use Rattle.out_json.proofs.whole.push_rows.Given as goal

abbrev pub invariant-loop-index : goal.invariant-loop-index
invariant-loop-index l =
    l.out.items ++ items_text (nat_lt 0 l.index) (row_values l.names (drop l.index l.rows))
    ≡ l.initial.out.items ++ items_text false (row_values l.names l.rows)
