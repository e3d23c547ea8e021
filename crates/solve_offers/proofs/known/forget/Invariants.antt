use Rattle.solve_offers.proofs.known.Unchanged.{Unknown}
use Rattle.solve_offers.proofs.known.forget.Given as goal

abbrev pub invariant-loop-unknown : goal.invariant-loop-unknown
invariant-loop-unknown l = Unknown l.system l.changed l.initial.known l.known l.unknown-index
