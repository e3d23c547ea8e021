use Rattle.std.proofs.Common.{◌∙◌, length, map, ap, arith}
use Rattle.std.proofs.lemmas.List.FromFn.{length-map-range_with_len}
use Rattle.solve_joint.specs.declared.node.Node.{Node}
use Rattle.solve_joint.specs.Classes.{standing_at}
use Rattle.solve_joint.proofs.group.Grouping.{group_at}
use Rattle.solve_joint.proofs.cutting.Cutting.standing_at.Goals as goal

pub index-requires : goal.index-requires
index-requires c =
    let cutting = c.args.self.now in
    let size = ap (λ gs. length gs) cutting.placed ∙ length-map-range_with_len (standing_at cutting.nodes.now) 0 cutting.points in
    let within = c.requires in
    omega (arith, size, within, cutting.standing.ok.0)

pub returns : goal.returns
returns c =
    let cutting = c.args.self.now in
    c.as_slice.ensures ∙ c.index.ensures
    ∙ group_at cutting.points (map (λ (a : Node). a.point) cutting.nodes.now) cutting.standing.items c.args.point c.index.result.now
    cutting.placed c.requires
