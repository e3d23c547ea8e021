use Rattle.std.specs.Prelude.{codes}
use Rattle.std.proofs.Common.{◌≡◌, ◌++◌, false, true, subst}
use Rattle.serde_json.specs.Written.{members_text}
use Rattle.out_report.specs.Points.{bounds_from}
use Rattle.base_json.proofs.Pushed.{list_pushed}
use Rattle.out_json.specs.Reports.{is_reachable, last_members, place_members, point_bounds}
use Rattle.out_json.proofs.points.push_members.Goals as goal

pub returns : goal.returns
returns c =
    let bounds = bounds_from c.args.bounds.now c.args.first in
    list_pushed _ _ c.push_bounds.new.out.items _ false (codes "bounds") (point_bounds c.args.rows.now bounds (bounds 0))
    (place_members c.args.point.now (last_members c.args.number (is_reachable (bounds 0)))) c.in_ok-push_list.ensures
    c.in_ok-push_bounds.ensures
    (subst (λ reached. c.push_place.new.out.items ≡ c.push_bounds.new.out.items
    ++ members_text true (place_members c.args.point.now (last_members c.args.number reached))) c.is_reached-is_reachable.ensures
    c.in_ok-push_place.ensures)
