use Rattle.std.proofs.Common.{◌+◌, ◌*◌}
use Rattle.lang_tree.specs.Tree.{node_count, nodes_in}
use Rattle.lang_tree.specs.View.{statement_of, statements_of}
use Rattle.flow_edges.proofs.point_edges.+edges.Given as goal

abbrev pub decreases-add_edges : goal.decreases-add_edges
decreases-add_edges l = 4 * nodes_in (statements_of l.stmts.now) + 2

abbrev pub decreases-add_edges_in : goal.decreases-add_edges_in
decreases-add_edges_in l = 4 * node_count (statement_of l.stmt.now) + 1

abbrev pub decreases-add_loop : goal.decreases-add_loop
decreases-add_loop l = 4 * node_count (statement_of l.stmt.now)

abbrev pub decreases-add_branches : goal.decreases-add_branches
decreases-add_branches l = 4 * (nodes_in (statements_of l.yes.now) + nodes_in (statements_of l.no.now)) + 3

abbrev pub decreases-add_tested_loop : goal.decreases-add_tested_loop
decreases-add_tested_loop l = 4 * nodes_in (statements_of l.body.now) + 3

abbrev pub decreases-add_do : goal.decreases-add_do
decreases-add_do l = 4 * nodes_in (statements_of l.body.now) + 3
