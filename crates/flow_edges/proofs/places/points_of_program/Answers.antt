use Rattle.std.proofs.Common.{◌∙◌, ap, ◌++◌}
use Rattle.flow_edges.specs.Places.{places_in}
use Rattle.flow_edges.proofs.places.PlaceLemmas.{placed}
use Rattle.flow_edges.proofs.places.points_of_program.Goals as goal

pub returns : goal.returns
returns c =
    c.new.ensures
    ∙ placed c.add_point.new.points.items c.add_points.new.points.items _ c.args.body.now
    (rw c.new-points.ensures.items at c.in_ok-add_point.ensures) (c.in_ok-add_points.ensures
    ∙ ap (λ ss. c.add_point.new.points.items ++ places_in ss) c.as_slice.ensures) c.in_ok-add_point-2.ensures
