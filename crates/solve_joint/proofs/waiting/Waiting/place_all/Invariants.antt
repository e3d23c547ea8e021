use Rattle.std.proofs.Common.{◌≡◌, ℕ, false, get_or, take}
use Rattle.base_facts.specs.Elements.{In}
use Rattle.solve_joint.specs.Waits.{AreWaiting, AreKept, IsPlaced}
use Rattle.solve_joint.proofs.waiting.Waiting.place_all.Given as goal

abbrev pub invariant-loop-head : goal.invariant-loop-head
invariant-loop-head l = record {
  waiting : AreWaiting l.cutting.nodes.now l.cutting.classes.items l.gone l.self.ready.keys l.self.noted.items;
  kept : AreKept l.initial.self.ready.keys l.initial.self.noted.items l.self.ready.keys l.self.noted.items;
  placed : (k : ℕ) → In (take l.head-index l.heads) k → get_or l.gone k false ≡ false
      → IsPlaced l.cutting.nodes.now l.cutting.classes.items l.gone l.self.ready.keys l.self.noted.items k;
}
