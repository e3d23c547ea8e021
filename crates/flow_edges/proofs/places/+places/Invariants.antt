use Rattle.std.proofs.Common.{◌+◌, ◌*◌}
use Rattle.lang_tree.specs.Tree.{node_count, nodes_in}
use Rattle.lang_tree.specs.View.{statement_of, statements_of}
use Rattle.flow_edges.proofs.places.+places.Given as goal

abbrev pub decreases-add_points : goal.decreases-add_points
decreases-add_points l = 2 * nodes_in (statements_of l.stmts.now) + 1

abbrev pub decreases-add_points_in : goal.decreases-add_points_in
decreases-add_points_in l = 2 * node_count (statement_of l.stmt.now)
