use Rattle.std.proofs.Common.{◌≡◌, ◌++◌, drop}
use Rattle.std.specs.Prelude.{flat_map}
use Rattle.lang_tree.specs.View.{deed_of}
use Rattle.flow_edges.specs.Trails.{begun_by}
use Rattle.flow_edges.proofs.deed_walk.after_deed.Given as goal

abbrev pub invariant-loop-trail : goal.invariant-loop-trail
invariant-loop-trail l =
    let on = flat_map (begun_by (deed_of l.deed)) in
    l.list.items ++ on (drop l.trail-index l.trails) ≡ l.initial.list.items ++ on l.trails
