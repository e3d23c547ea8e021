use Rattle.std.proofs.Common.{◌+◌, ◌*◌}
use Rattle.lang_tree.specs.Tree.{node_count, nodes_in}
use Rattle.lang_tree.specs.View.{statement_of, statements_of}
use Rattle.flow_edges.proofs.edge_count.+edge_counts.Given as goal

abbrev pub decreases-edge_count_in : goal.decreases-edge_count_in
decreases-edge_count_in l = 4 * nodes_in (statements_of l.stmts.now) + 2

abbrev pub decreases-edge_count_of : goal.decreases-edge_count_of
decreases-edge_count_of l = 4 * node_count (statement_of l.stmt.now) + 1

abbrev pub decreases-tested_count : goal.decreases-tested_count
decreases-tested_count l = 4 * nodes_in l.body.now + 3
