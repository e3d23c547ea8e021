use Rattle.std.proofs.Common.{◌+◌, ◌*◌}
use Rattle.lang_tree.specs.Tree.{node_count, nodes_in}
use Rattle.lang_tree.specs.View.{statement_of, statements_of}
use Rattle.flow_edges.proofs.count.+points.Given as goal

abbrev pub decreases-points_in : goal.decreases-points_in
decreases-points_in l = 2 * nodes_in (statements_of l.stmts.now) + 1

abbrev pub decreases-points_of : goal.decreases-points_of
decreases-points_of l = 2 * node_count (statement_of l.stmt.now)
