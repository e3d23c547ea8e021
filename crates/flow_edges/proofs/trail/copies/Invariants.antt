use Rattle.std.proofs.Common.{◌≡◌, take}
use Rattle.flow_edges.proofs.trail.copies.Given as goal

abbrev pub invariant-loop-action : goal.invariant-loop-action
invariant-loop-action l = l.list.items ≡ take l.action-index l.actions
