use Rattle.std.proofs.Common.{[], ◌∷◌, length, map, ap}
use Rattle.flow_rationals.specs.System.{start_edge, alternative_edge, alternative_edges}
use Rattle.flow_rationals.proofs.made.Steps.{joined_more}
use Rattle.flow_rationals.proofs.edges.edges_of.Goals as goal

pub loop-k-preserved : goal.loop-k-preserved
loop-k-preserved c =
    let equations = c.args.equations.now in
    joined_more (alternative_edges (length equations)) (start_edge equations ∷ []) _ _ _ equations c.loop-k.k c.index-equations-k.result
    c.loop-k-test.true c.index-equations-k.is
    c.loop-k.invariant c.in_ok-add_edges.ensures (ap (map (alternative_edge (length equations) c.loop-k.k)) c.as_slice.ensures)
