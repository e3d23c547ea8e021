use Rattle.std.proofs.Common.{◌≡◌, ◌*◌, length, Bor}
use Rattle.flow_systems.specs.View.{equations_of}
use Rattle.solve_offers.specs.AtBounds.{vector_at}
use Rattle.solve_offers.specs.Improvement.{AreImproved}
use Rattle.solve_offers.specs.Known.{AreKnown}
use Rattle.solve_offers.specs.contracts.improvement.improve.fn-1 as pointer
use Rattle.solve_offers.proofs.improvement.improve.Given as goal

abbrev pub invariant-loop-point : goal.invariant-loop-point
invariant-loop-point g l = record {
  improved : AreImproved (equations_of l.system) (vector_at l.system l.bounds)
      (λ offer k. (shown : Bor _) × (pointer.words g.fn-1.I (goal.Fn-ptr g)).post l.chooser.policy shown k × (shown.now ≡ offer))
      0 (l.point * length l.system.template) l.initial.pick l.pick l.improved;
  size : length l.pick ≡ length l.initial.pick;
  known : AreKnown l.system l.bounds l.known;
}
