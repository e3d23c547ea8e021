use Rattle.std.proofs.Common.{◌+◌, ◌*◌}
use Rattle.lang_tree.specs.Tree.{node_count, nodes_in}
use Rattle.lang_tree.specs.View.{statement_of, statements_of}
use Rattle.flow_edges.proofs.checked.+checks.Given as goal

abbrev pub decreases-add_checks : goal.decreases-add_checks
decreases-add_checks l = 2 * nodes_in (statements_of l.stmts.now) + 1

abbrev pub decreases-add_checks_of : goal.decreases-add_checks_of
decreases-add_checks_of l = 2 * node_count (statement_of l.stmt.now)
