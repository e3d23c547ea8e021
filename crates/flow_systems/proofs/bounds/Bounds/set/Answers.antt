use Rattle.std.proofs.Common.{ap, ◌∙◌}
use Rattle.std.specs.Prelude.{slice_set}
use Rattle.std.proofs.lemmas.List.{map-set}
use Rattle.base_fractions.specs.Extended.{extended}
use Rattle.flow_systems.proofs.bounds.Bounds.set.Goals as goal

pub returns : goal.returns
returns c = map-set extended c.self.inside.list.items c.args.unknown c.args.value
    ∙ ap (λ xs. slice_set xs c.args.unknown (extended c.args.value)) c.self.view_is
