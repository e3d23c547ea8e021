use Rattle.std.proofs.Common.{◌≡◌, ◌++◌, drop}
use Rattle.std.specs.Prelude.{flat_map}
use Rattle.flow_edges.specs.Edges.{arrived}
use Rattle.flow_edges.specs.Trails.{reached}
use Rattle.flow_edges.proofs.deed_walk.changed.Given as goal

abbrev pub invariant-loop-trail : goal.invariant-loop-trail
invariant-loop-trail l =
    let on = flat_map (λ b. reached b (arrived l.head)) in
    l.edges.items ++ on (drop l.trail-index l.trail-items) ≡ l.initial.edges.items ++ on l.trail-items
