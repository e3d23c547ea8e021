use Rattle.std.proofs.Common.{◌∙◌, length, ap, arith}
use Rattle.std.proofs.lemmas.List.FromFn.{length-map-range_with_len}
use Rattle.solve_joint.specs.Classes.{places_of}
use Rattle.solve_joint.proofs.group.Grouping.{group_at}
use Rattle.solve_joint.proofs.cutting.Cutting.members_of.Goals as goal

pub index-requires : goal.index-requires
index-requires c =
    let cutting = c.args.self.now in
    let size = ap (λ gs. length gs) cutting.grouped
    ∙ length-map-range_with_len (places_of cutting.classes.items) 0 (length cutting.nodes.now) in
    let within = c.requires in
    omega (arith, size, within, cutting.members.ok.0)

pub returns : goal.returns
returns c =
    let cutting = c.args.self.now in
    c.as_slice.ensures ∙ c.index.ensures
    ∙ group_at (length cutting.nodes.now) cutting.classes.items cutting.members.items c.args.head c.index.result.now cutting.grouped
    c.requires
