use Rattle.std.proofs.Common.{◌≡◌, ◌+◌, ◌*◌, drop}
use Rattle.lang_tree.specs.Tree.{node_count, nodes_in}
use Rattle.lang_tree.specs.View.{statement_of, statements_of}
use Rattle.lang_tree.proofs.stmt.+counting.Given as goal

abbrev pub decreases-nodes : goal.decreases-nodes
decreases-nodes l = 2 * node_count (statement_of l.stmt.now)

abbrev pub decreases-nodes_in : goal.decreases-nodes_in
decreases-nodes_in l = 2 * nodes_in l.block.now + 1

abbrev pub invariant-nodes_in-loop-stmt : goal.invariant-nodes_in-loop-stmt
invariant-nodes_in-loop-stmt l = l.count + nodes_in (statements_of (drop l.stmt-index l.stmt-items)) ≡ nodes_in l.block
