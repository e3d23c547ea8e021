use Rattle.std.proofs.Common.{ℕ, ◌<◌}
use Rattle.solve_joint.specs.Waits.{IsHead, AreWaiting, IsPlaced}
use Rattle.solve_joint.proofs.waiting.Waiting.place_each.Given as goal

abbrev pub invariant-loop-place : goal.invariant-loop-place
invariant-loop-place l = record {
  waiting : AreWaiting l.cutting.nodes.now l.cutting.classes.items l.gone l.self.ready.keys l.self.noted.items;
  placed : (k : ℕ) → k < l.place → IsHead l.cutting.nodes.now l.cutting.classes.items k
      → IsPlaced l.cutting.nodes.now l.cutting.classes.items l.gone l.self.ready.keys l.self.noted.items k;
}
