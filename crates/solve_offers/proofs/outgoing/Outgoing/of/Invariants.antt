use Rattle.solve_offers.proofs.outgoing.OutLists.{LeavingTo}
use Rattle.solve_offers.proofs.outgoing.Outgoing.of.Given as goal

abbrev pub invariant-loop-number : goal.invariant-loop-number
invariant-loop-number l = LeavingTo l.system l.lists.items l.number
