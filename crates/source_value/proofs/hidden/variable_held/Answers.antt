use Rattle.std.proofs.Common.{◌∙◌, ap}
use Rattle.source_core.specs.Elaborated.{is_held}
use Rattle.source_core.specs.Fits.{condition_fits}
use Rattle.source_value.proofs.answers.Ranged.{held_fits}
use Rattle.source_value.proofs.hidden.variable_held.Goals as goal

pub always_held-requires : goal.always_held-requires
always_held-requires c =
    ap (λ f. condition_fits (is_held c.args.width f)) c.in_ok-form.ensures ∙ held_fits c.args.var c.args.width
