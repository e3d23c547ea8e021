use Rattle.std.proofs.Common.{◌≡◌, ◌+◌, ◌*◌, ◌++◌, drop}
use Rattle.lang_tree.specs.Tree.{nodes_in}
use Rattle.lang_tree.specs.View.{statements_of}
use Rattle.flow_edges.specs.Edges.{ways_in}
use Rattle.flow_edges.specs.Trails.{jumps_of, split, walked}
use Rattle.flow_edges.proofs.edge_walk.+walk.Given as goal

abbrev pub decreases-walk : goal.decreases-walk
decreases-walk l = 3 * nodes_in (statements_of l.stmts.now)

abbrev pub decreases-walk_cases : goal.decreases-walk_cases
decreases-walk_cases l = 3 * nodes_in (statements_of l.stmts.now) + 1

abbrev pub decreases-walk_branches : goal.decreases-walk_branches
decreases-walk_branches l = 3 * (nodes_in (statements_of l.yes.now) + nodes_in (statements_of l.no.now)) + 2

abbrev pub invariant-walk_cases-loop-case : goal.invariant-walk_cases-loop-case
invariant-walk_cases-loop-case l =
    let ways = ways_in (statements_of l.stmts) l.first (jumps_of l.jumps) (walked l.next) in
    l.edges.items ++ split l.trail (drop l.case-index l.case-items) ways ≡ l.initial.edges.items ++ split l.trail l.cases ways
