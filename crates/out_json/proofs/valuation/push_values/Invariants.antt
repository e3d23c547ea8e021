use Rattle.std.proofs.Common.{◌≡◌, ◌++◌, drop, false, nat_lt}
use Rattle.serde_json.specs.Written.{items_text}
use Rattle.out_report.specs.Points.{bounds_from}
use Rattle.out_json.specs.Values.{named_values}
use Rattle.out_json.proofs.valuation.push_values.Given as goal

abbrev pub invariant-loop-index : goal.invariant-loop-index
invariant-loop-index l =
    l.out.items ++ items_text (nat_lt 0 l.index) (named_values l.index (drop l.index l.names) (bounds_from l.bounds l.first))
    ≡ l.initial.out.items ++ items_text false (named_values 0 l.names (bounds_from l.bounds l.first))
