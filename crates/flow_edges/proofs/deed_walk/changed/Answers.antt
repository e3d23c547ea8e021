use Rattle.std.proofs.Common.{◌∙◌, [], ◌++◌, ap₂, arith}
use Rattle.std.specs.Prelude.{flat_map}
use Rattle.lang_tree.specs.View.{deeds_of}
use Rattle.flow_edges.specs.Edges.{arrived}
use Rattle.flow_edges.specs.Trails.{reached}
use Rattle.flow_edges.proofs.trail.TrailLemmas.{walked_along}
use Rattle.flow_edges.proofs.deed_walk.changed.Goals as goal

pub returns : goal.returns
returns c =
    let ways = arrived c.args.head in
    c.new.ensures
    ∙ walked_along c.args.head (deeds_of c.args.change.now) ways [] c.loop-trail.edges.items c.in_ok-trails.trails.items
    c.as_slice-trail-items.result.now c.loop-trail.trail-index (omega (arith, c.loop-trail.auto.trail-index-end)) c.in_ok-trails.ensures
    (c.loop-trail.invariant
    ∙ ap₂ (λ es bs. es ++ flat_map (λ b. reached b ways) bs) c.new-edges.ensures.items c.as_slice-trail-items.ensures.value)
