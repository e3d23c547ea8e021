use Rattle.std.proofs.Common.{drop}
use Rattle.lang_tree.specs.View.{statements_of}
use Rattle.flow_transitions.proofs.counted.Ways.{AreCounted}
use Rattle.flow_transitions.proofs.counting.way_count.Given as goal

abbrev pub invariant-loop-act : goal.invariant-loop-act
invariant-loop-act l = AreCounted (statements_of l.acts) (statements_of (drop l.act-index l.acts)) l.count
