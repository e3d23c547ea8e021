use Rattle.std.proofs.Common.{length}
use Rattle.solve_offers.proofs.incoming.PointLists.{AreListed}
use Rattle.solve_offers.proofs.incoming.Incoming.of.Given as goal

abbrev pub invariant-loop-number : goal.invariant-loop-number
invariant-loop-number l = AreListed (length l.system.flow.points) l.edge-items l.lists.items l.number
