use Rattle.std.proofs.Common.{◌∙◌, ap}
use Rattle.solve_composition.specs.Composed.{EdgeForms}
use Rattle.solve_composition.proofs.Places.{part_within, part_read}
use Rattle.solve_composition.proofs.paths.Paths.guard.Goals as goal

pub bounds-as_slice-guard : goal.bounds-as_slice-guard
bounds-as_slice-guard c =
    part_within (λ (f : EdgeForms). f.guards) c.args.self.now c.self.inside.list.items c.args.edge c.index.result.now c.self.view_is
    c.index.ensures c.as_slice.result.now
    (c.as_slice.ensures ∙ ap (λ (f : EdgeForms). f.guards) c.behind-self.view_is) c.args.guard c.requires.edge c.requires.guard

pub returns : goal.returns
returns c =
    part_read (λ (f : EdgeForms). f.guards) c.args.self.now c.self.inside.list.items c.args.edge c.index.result.now c.self.view_is
    c.index.ensures c.as_slice.result.now
    (c.as_slice.ensures ∙ ap (λ (f : EdgeForms). f.guards) c.behind-self.view_is) c.args.guard c.requires.guard
    c.index-as_slice-guard.result c.index-as_slice-guard.is
