use Rattle.std.proofs.Common.{◌≡◌, ◌*◌, length, Bor}
use Rattle.flow_systems.specs.View.{equations_of}
use Rattle.solve_offers.specs.AtBounds.{vector_at}
use Rattle.solve_offers.specs.Improvement.{AreImproved}
use Rattle.solve_offers.specs.Known.{AreKnown}
use Rattle.solve_offers.specs.contracts.improvement.offer_edges.fn-1 as pointer
use Rattle.solve_offers.proofs.improvement.offer_edges.Given as goal

abbrev pub invariant-loop-row : goal.invariant-loop-row
invariant-loop-row g l = record {
  improved : AreImproved (equations_of l.at.system.now) (vector_at l.at.system.now l.at.bounds.now)
      (λ offer k. (shown : Bor _) × (pointer.words g.fn-1.I (goal.Fn-ptr g)).post l.chooser.policy shown k × (shown.now ≡ offer))
      (l.point * length l.at.system.now.template) l.row l.initial.pick l.pick l.improved;
  size : length l.pick ≡ length l.initial.pick;
  known : AreKnown l.at.system.now l.at.bounds.now l.known;
}
