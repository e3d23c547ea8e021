use Rattle.std.proofs.Common.{◌+◌, ◌*◌}
use Rattle.lang_tree.specs.Tree.{node_count, nodes_in}
use Rattle.lang_tree.specs.View.{statement_of, statements_of}
use Rattle.flow_edges.proofs.checked.+counted_checks.Given as goal

abbrev pub decreases-check_count : goal.decreases-check_count
decreases-check_count l = 2 * nodes_in (statements_of l.stmts.now) + 1

abbrev pub decreases-check_count_of : goal.decreases-check_count_of
decreases-check_count_of l = 2 * node_count (statement_of l.stmt.now)
