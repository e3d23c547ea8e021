use Rattle.lang_tree.specs.Tree.{nodes_in}
use Rattle.lang_tree.specs.View.{statements_of}
use Rattle.flow_edges.proofs.edge_count.+way_count.Given as goal

abbrev pub decreases-way_count : goal.decreases-way_count
decreases-way_count l = nodes_in (statements_of l.stmts.now)
