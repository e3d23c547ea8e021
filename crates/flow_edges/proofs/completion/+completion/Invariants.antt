use Rattle.std.proofs.Common.{◌+◌, ◌*◌}
use Rattle.lang_tree.specs.Tree.{node_count, nodes_in}
use Rattle.lang_tree.specs.View.{statement_of, statements_of}
use Rattle.flow_edges.proofs.completion.+completion.Given as goal

abbrev pub decreases-complete : goal.decreases-complete
decreases-complete l = 2 * nodes_in (statements_of l.stmts.now) + 1

abbrev pub decreases-completes : goal.decreases-completes
decreases-completes l = 2 * node_count (statement_of l.stmt.now)

abbrev pub decreases-leave_in : goal.decreases-leave_in
decreases-leave_in l = 2 * nodes_in (statements_of l.stmts.now) + 1

abbrev pub decreases-may_leave : goal.decreases-may_leave
decreases-may_leave l = 2 * node_count (statement_of l.stmt.now)
