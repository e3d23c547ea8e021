use Rattle.std.proofs.Common.{[], ap, refl, subst, ◌∙◌}
use Rattle.source_core.specs.Elaborated.{form_behind, is_held, step_form}
use Rattle.source_core.specs.Fits.{condition_fits}
use Rattle.source_value.specs.declared.value.Outcome.TheVariants as outcome
use Rattle.source_value.specs.Answers.{IsCondition}
use Rattle.source_value.specs.Steps.{direction_of, moment_of, stepped_form}
use Rattle.source_value.proofs.answers.Ranged.{ranged_stands, unranged_stands, stepped_held}
use Rattle.source_value.proofs.step.step_checked.Goals as goal

pub always_held-requires : goal.always_held-requires
always_held-requires c =
    let d = direction_of c.args.step.direction in
    ap (λ f. condition_fits (is_held c.in-Machine.width f)) c.requires ∙ stepped_held c.args.step.var c.in-Machine.width d

pub returns-in-Mathematical : goal.returns-in-Mathematical
returns-in-Mathematical c =
    let d = direction_of c.args.step.direction in
    let f = step_form d (moment_of c.args.step.moment) c.args.step.var in
    let i = c.in_ok-step_form.ensures in
    unranged_stands c.args.site.integers c.args.site.line c.args.step.sign (λ width f. is_held width (stepped_form d c.args.step.var))
    (form_behind [] c.args.next f) c.args.site.variables
    (record { prelude = c.none.result; result = outcome.Form c.in_ok-step_form.field-0; next = c.args.next }) c.in-Mathematical.is
    (record { prelude = c.none.ensures; result = ap outcome.Form i.0; next = refl; numbers = i.1 })

pub returns-in_ok-ranged-in-Machine : goal.returns-in_ok-ranged-in-Machine
returns-in_ok-ranged-in-Machine c =
    let d = direction_of c.args.step.direction in
    let g = stepped_form d c.args.step.var in
    let f = step_form d (moment_of c.args.step.moment) c.args.step.var in
    let width = c.in-Machine.width in
    let i = c.in_ok-step_form.ensures in
    ranged_stands c.args.site.integers c.args.site.line c.args.step.sign (λ width f. is_held width g) (form_behind [] c.args.next f)
    c.args.site.variables c.in_ok-ranged-in-Machine.field-0 width c.in-Machine.is
    (c.in_ok-ranged-in-Machine.ensures (form_behind [] c.args.next f) (is_held width g)
    (record { prelude = c.none.ensures; result = ap outcome.Form i.0; next = refl; numbers = i.1 })
    (subst (λ f. IsCondition c.in_ok-holds-in-Machine.holds (is_held width f)) c.requires c.in_ok-holds-in-Machine.ensures))
