use Rattle.std.proofs.Common.{◌∙◌, ◌++◌, ◌∷◌, [], ap, refl}
use Rattle.lang_tree.specs.Tree.{sets}
use Rattle.source_value.specs.Kept.{kept_deeds}
use Rattle.source_value.specs.Steps.{direction_of, moment_of}
use Rattle.source_value.proofs.answers.Stepped.{checked_step, step_stands}
use Rattle.source_value.proofs.step.stepped.Goals as goal

pub returns : goal.returns
returns c =
    let n = c.args.site.variables in
    let integers = c.args.site.integers in
    let line = c.args.site.line in
    let step = c.args.step in
    let d = direction_of step.direction in
    let m = moment_of step.moment in
    let e = checked_step integers line d m step.var step.sign c.args.next in
    let s = c.in_ok-value.ensures in
    let t = c.in_ok-taken.ensures in
    step_stands n integers line d m step.var step.sign c.args.next c.in_ok-value.value _ s
    (c.in_ok-with_set.ensures n e.next e.prelude s.prelude
    ∙ ap (λ f. kept_deeds n e.next (e.prelude ++ sets step.var f line ∷ [])) t.0) refl refl t.1
