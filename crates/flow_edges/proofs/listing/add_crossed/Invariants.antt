use Rattle.std.proofs.Common.{◌≡◌, ◌++◌, drop}
use Rattle.lang_tree.specs.Cases.{crossed}
use Rattle.flow_edges.proofs.listing.add_crossed.Given as goal

abbrev pub invariant-loop-before : goal.invariant-loop-before
invariant-loop-before l = l.list.items ++ crossed (drop l.before-index l.first) l.second ≡ l.initial.list.items ++ crossed l.first l.second
