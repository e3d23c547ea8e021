use Rattle.std.specs.Prelude.{codes}
use Rattle.std.proofs.Common.{true, length, map}
use Rattle.base_fractions.specs.Extended.{extended}
use Rattle.flow_systems.specs.View.{vector_of}
use Rattle.base_json.proofs.Pushed.{list_pushed}
use Rattle.out_json.specs.Reports.{point_values, row_members}
use Rattle.out_json.proofs.whole.push_body.Goals as goal

pub returns : goal.returns
returns c =
    let s = c.args.system.now in
    list_pushed _ _ _ _ true (codes "points")
    (point_values s.template (vector_of (length s.template) (map extended c.args.bounds.now)) 0 s.flow.points)
    (row_members s.flow.names s.template) c.in_ok-push_list.ensures c.in_ok-push_points.ensures c.in_ok-push_last.ensures
