use Rattle.std.proofs.Common.{◌≡◌, ◌-◌, ◌++◌, length}
use Rattle.solve_joint.specs.Tables.{closed}
use Rattle.solve_joint.specs.Cuts.{cut_from}
use Rattle.solve_joint.specs.Waits.{left_of, AreWaiting, AllPlaced}
use Rattle.solve_joint.proofs.cut.Turning.{IsWhole}
use Rattle.solve_joint.proofs.cut.cut.Given as goal

abbrev pub invariant-loop-turn : goal.invariant-loop-turn
invariant-loop-turn l = record {
  size : length l.gone ≡ length l.cutting.nodes.now;
  whole : IsWhole l.cutting.nodes.now l.cutting.classes.items l.gone;
  waiting : AreWaiting l.cutting.nodes.now l.cutting.classes.items l.gone l.waiting.ready.keys l.waiting.noted.items;
  placed : AllPlaced l.cutting.nodes.now l.cutting.classes.items l.gone l.waiting.ready.keys l.waiting.noted.items;
  parts : cut_from (closed l.cutting.points l.cutting.nodes.now) (length l.cutting.nodes.now) l.cutting.nodes.now
      ≡ l.lists.items ++ cut_from (closed l.cutting.points l.cutting.nodes.now) (length l.cutting.nodes.now - l._turn)
      (left_of l.cutting.nodes.now l.gone);
}
