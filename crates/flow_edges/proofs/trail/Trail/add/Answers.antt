use Rattle.std.proofs.Common.{◌∷◌, [], arith}
use Rattle.flow_edges.proofs.trail.TrailLemmas.{followed_by_one, followed_past}
use Rattle.flow_edges.proofs.trail.Trail.add.Goals as goal

pub returns-in_ok-push : goal.returns-in_ok-push
returns-in_ok-push c = rw (← c.self.view_is) (followed_by_one (record { from = c.self.inside.from; actions = c.self.inside.actions.items })
    c.args.action _ c.in_ok-push.ensures.items (omega arith))

pub returns-else-len-lt-KEPT : goal.returns-else-len-lt-KEPT
returns-else-len-lt-KEPT c = rw (← c.self.view_is) (followed_past (record {
  from = c.self.inside.from;
  actions =
      c.self.inside.actions.items;
}) (c.args.action ∷ []) (omega arith) c.self.invariant)
