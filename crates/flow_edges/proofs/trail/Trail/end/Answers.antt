use Rattle.std.proofs.Common.{◌∙◌, sym, ap, List}
use Rattle.flow_edges.specs.declared.edge.Action.{Action}
use Rattle.flow_edges.specs.declared.edge.Edge.{Edge}
use Rattle.flow_edges.proofs.trail.TrailLemmas.{kept_all}
use Rattle.flow_edges.proofs.trail.Trail.end.Goals as goal

pub returns : goal.returns
returns c =
    let edge = λ (actions : List Action). let e : Edge = record { from = c.self.inside.from; to = c.args.to; actions = actions } in e in
    rw (← c.self.view_is) (ap edge (c.new.ensures ∙ sym (kept_all c.self.inside.actions.items c.self.invariant)))
