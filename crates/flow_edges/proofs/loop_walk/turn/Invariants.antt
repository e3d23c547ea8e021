use Rattle.std.proofs.Common.{◌≡◌, ◌+◌, ◌++◌, drop, true, false}
use Rattle.std.specs.Prelude.{flat_map}
use Rattle.lang_tree.specs.View.{condition_of, statements_of}
use Rattle.flow_edges.specs.Edges.{by_case, ways_in}
use Rattle.flow_edges.specs.Trails.{jumps_of, reached}
use Rattle.flow_edges.proofs.loop_walk.turn.Given as goal

abbrev pub invariant-loop-trail : goal.invariant-loop-trail
invariant-loop-trail l =
    let jumps = jumps_of l.jumps in
    let cond = condition_of l.cond in
    let into = by_case true cond (ways_in (statements_of l.body) (l.head + 1) jumps jumps.continued) in
    let on = flat_map (λ b. reached b (into ++ by_case false cond jumps.broken)) in
    l.edges.items ++ on (drop l.trail-index l.trail-items) ≡ l.initial.edges.items ++ on l.trail-items
