use Rattle.std.proofs.Common.{◌++◌, map, refl}
use Rattle.lang_tree.specs.Cases.{crossed}
use Rattle.flow_edges.proofs.edge_walk.Loops.{loop_step}
use Rattle.flow_edges.proofs.listing.add_crossed.Goals as goal

pub loop-before-preserved : goal.loop-before-preserved
loop-before-preserved c =
    let ys = c.args.second.now in
    loop_step (λ xs. crossed xs ys) (λ x. map (λ y. x ++ y) ys) (λ x xs. refl) _ _ _ c.args.first.now c.loop-before.before-index
    c.before-item.result
    c.loop-before-test.true c.before-item.is c.in_ok-add_followed.ensures c.loop-before.invariant
