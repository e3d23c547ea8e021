use Rattle.std.proofs.Common.{drop}
use Rattle.solve_joint.specs.Waits.{AreWaiting, AllPlacedBut}
use Rattle.solve_joint.proofs.waiting.Waiting.go_on.Given as goal

abbrev pub invariant-loop-member : goal.invariant-loop-member
invariant-loop-member l = record {
  waiting : AreWaiting l.cutting.nodes.now l.cutting.classes.items l.gone l.self.ready.keys l.self.noted.items;
  others : AllPlacedBut l.cutting.nodes.now l.cutting.classes.items l.gone l.self.ready.keys l.self.noted.items
      (drop l.member-index l.member-items);
}
