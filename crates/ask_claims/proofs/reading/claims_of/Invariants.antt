use Rattle.std.proofs.Common.{◌-◌, length}
use Rattle.ask_claims.proofs.claims.Leads.{Keeps}
use Rattle.ask_claims.proofs.reading.claims_of.Given as goal

abbrev pub invariant-loop-alloc : goal.invariant-loop-alloc
invariant-loop-alloc l = Keeps l.text l.flow.names l.flow.points l.tokens l.claims.items l.next

abbrev pub decreases-loop-alloc : goal.decreases-loop-alloc
decreases-loop-alloc l = 65 - length l.claims.items
