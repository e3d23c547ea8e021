use Rattle.std.proofs.Common.{◌≡◌, ◌≤◌, Bor}
use Rattle.solve_rounds.specs.contracts.solving.least.fn-1 as pointer
use Rattle.solve_offers.specs.Known.{AreKnown}
use Rattle.solve_rounds.specs.Solving.{IsAfter}
use Rattle.solve_rounds.proofs.solving.least.Given as goal

abbrev pub invariant-loop-made : goal.invariant-loop-made
invariant-loop-made g l = record {
  after : IsAfter l.system (λ offer k. (shown : Bor _) × (pointer.words g.row.W g.fn-1.I (goal.Fn-ptr g)).post l.chooser.policy shown k
      × (shown.now ≡ offer)) l.made l.progress;
  within : l.made ≤ l.limit;
  known : AreKnown l.system l.progress.bounds l.progress.known;
}
