use Rattle.flow_transitions.proofs.made.Places.{point_more}
use Rattle.flow_transitions.proofs.edges.edges_of.Goals as goal

pub loop-point-preserved : goal.loop-point-preserved
loop-point-preserved c =
    point_more c.loop-point.list.items c.add_edges_at.new.list.items c.args.edges.now c.loop-point.point c.in_ok-add_edges_at.ensures
    c.loop-point.invariant
