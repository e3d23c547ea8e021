use Rattle.std.proofs.Common.{◌≡◌, ◌++◌, drop}
use Rattle.std.specs.Prelude.{flat_map}
use Rattle.lang_tree.specs.View.{condition_of}
use Rattle.flow_edges.specs.Edges.{test_ways}
use Rattle.flow_edges.specs.Trails.{reached, walked}
use Rattle.flow_edges.proofs.loop_walk.repeated.Given as goal

abbrev pub invariant-loop-trail : goal.invariant-loop-trail
invariant-loop-trail l =
    let on = flat_map (λ b. reached b (test_ways (condition_of l.cond) l.head (walked l.after))) in
    l.edges.items ++ on (drop l.trail-index l.trail-items) ≡ l.initial.edges.items ++ on l.trail-items
