use Rattle.std.specs.Prelude.{codes}
use Rattle.out_report.specs.Points.{bounds_from}
use Rattle.base_json.proofs.Pushed.{line_pushed}
use Rattle.out_json.specs.Pieces.{count}
use Rattle.out_json.specs.Values.{value_members}
use Rattle.out_json.proofs.valuation.push_line.Goals as goal

pub returns : goal.returns
returns c =
    line_pushed _ _ _ _ (codes "improvements") (count c.args.improvements)
    (value_members c.args.names.now (bounds_from c.args.bounds.now c.args.first)) c.in_ok-push_improvements.ensures
    c.in_ok-push_last.ensures c.in_ok-extend_from_slice.ensures.items
