use Rattle.std.proofs.Common.{◌≡◌, ◌∙◌, ◌+◌, ap, ap₂, sym, add-one, false}
use Rattle.std.proofs.lemmas.Int.{to_z-of_z}
use Rattle.lang_tree.specs.Tree.{havocs, wheres}
use Rattle.source_core.specs.Elaborated.{divides}
use Rattle.source_core.specs.Fits.{condition_fits}
use Rattle.source_value.specs.Answers.{IsCondition}
use Rattle.source_value.specs.Kept.{kept_condition}
use Rattle.source_value.proofs.answers.Parts.{last_of_two_unfit}
use Rattle.source_value.proofs.answers.Handed.{handed}
use Rattle.source_value.proofs.operation.quotient_behind.Goals as goal

pub returns-in_err-condition : goal.returns-in_err-condition
returns-in_err-condition c = λ d s.
    let f = c.args.form.now in
    let z = c.args.divisor in
    let v = c.ranges.divisor in
    handed _ _ _ c.in_err-condition.field-0.0 _ c.from_residual.ensures.1
    (λ n. let e : condition_fits (divides f z c.args.before.next) ≡ false = simp to_z-of_z at (c.in_err-condition.ensures n) in
    last_of_two_unfit d.prelude (havocs d.next c.args.site.line) (wheres (divides f z d.next) c.args.site.line)
    (ap (λ q. condition_fits (divides f z q)) (sym s.next) ∙ e))

pub returns : goal.returns
returns c = λ d s.
    let f = c.args.form.now in
    let z = c.args.divisor in
    let v = c.ranges.divisor in
    let i : IsCondition c.in_ok-condition.condition (divides f z c.args.before.next) = simp to_z-of_z at c.in_ok-condition.ensures in
    c.in_ok-taken_where.ensures d (divides f z d.next) s (ap (λ q. condition_fits (divides f z q)) (sym s.next) ∙ i.1)
    (c.of-condition.ensures ∙ ap₂ (kept_condition c.args.site.variables)
    (c.in_ok-behind.ensures ∙ ap (λ k. k + 1) s.next ∙ add-one d.next) (i.0 ∙ ap (divides f z) s.next))
