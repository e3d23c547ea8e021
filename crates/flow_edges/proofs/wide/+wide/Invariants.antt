use Rattle.std.proofs.Common.{◌+◌, ◌*◌}
use Rattle.lang_tree.specs.Tree.{node_count, nodes_in}
use Rattle.lang_tree.specs.View.{statement_of, statements_of}
use Rattle.flow_edges.proofs.wide.+wide.Given as goal

abbrev pub decreases-wide_line : goal.decreases-wide_line
decreases-wide_line l = 2 * nodes_in (statements_of l.stmts.now) + 1

abbrev pub decreases-wide_line_in : goal.decreases-wide_line_in
decreases-wide_line_in l = 2 * node_count (statement_of l.stmt.now)
