use Rattle.std.proofs.Common.{◌∙◌, ap}
use Rattle.solve_composition.specs.Composed.{EdgeForms}
use Rattle.solve_composition.proofs.Places.{part_within, part_read}
use Rattle.solve_composition.proofs.paths.Paths.row.Goals as goal

pub bounds-as_slice-row : goal.bounds-as_slice-row
bounds-as_slice-row c =
    part_within (λ (f : EdgeForms). f.rows) c.args.self.now c.self.inside.list.items c.args.edge c.index.result.now c.self.view_is
    c.index.ensures c.as_slice.result.now
    (c.as_slice.ensures ∙ ap (λ (f : EdgeForms). f.rows) c.behind-self.view_is) c.args.row c.requires.edge c.requires.row

pub returns : goal.returns
returns c =
    part_read (λ (f : EdgeForms). f.rows) c.args.self.now c.self.inside.list.items c.args.edge c.index.result.now c.self.view_is
    c.index.ensures c.as_slice.result.now
    (c.as_slice.ensures ∙ ap (λ (f : EdgeForms). f.rows) c.behind-self.view_is) c.args.row c.requires.row c.index-as_slice-row.result
    c.index-as_slice-row.is
