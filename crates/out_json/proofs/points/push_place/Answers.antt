use Rattle.std.specs.Prelude.{codes}
use Rattle.std.proofs.Common.{true}
use Rattle.serde_json.specs.Data.{string}
use Rattle.base_json.proofs.Pushed.{member_pushed}
use Rattle.out_json.specs.Reports.{kind_text, last_members, line_members}
use Rattle.out_json.proofs.points.push_place.Goals as goal

pub returns : goal.returns
returns c =
    member_pushed _ _ _ true (codes "kind") (string (kind_text c.args.point.now.place))
    (line_members c.args.point.now (last_members c.args.number c.args.is_reachable)) c.in_ok-push_kind.ensures c.in_ok-push_lined.ensures
