use Rattle.std.proofs.Common.{◌≡◌, ◌∙◌, ap, ap₂, sym, rules, FitsSigned, pos, false}
use Rattle.std.specs.Prelude.{nat_abs, ◌-ℤ◌}
use Rattle.std.proofs.lemmas.Int.{to_z-of_z}
use Rattle.std.proofs.lemmas.Bool.{and_from, and_left, and_right}
use mir.Syntax.{w128}
use Rattle.lang_tree.specs.declared.cond.Rel.TheVariants.{Le, Ge}
use Rattle.lang_tree.specs.Limits.{has_numbers}
use Rattle.lang_tree.specs.Tree.{either}
use Rattle.source_core.specs.Forms.{minus, scaled}
use Rattle.source_core.specs.Fits.{condition_fits}
use Rattle.source_value.specs.Answers.{IsCondition}
use Rattle.source_value.proofs.answers.Handed.{handed}
use Rattle.source_value.proofs.answers.Divided.{rest_unfit, left_over, upper, lower}
use Rattle.source_value.proofs.conditions.divides.Goals as goal

pub returns-in_err-rest : goal.returns-in_err-rest
returns-in_err-rest c =
    let f = c.args.form.now in
    let d = c.args.divisor in
    let q = c.args.quotient in
    let size = pos (nat_abs d) in
    let v = c.ranges.divisor in
    handed _ _ _ c.in_err-rest.field-0.0 _ c.from_residual-in_err-rest.ensures.1
    (λ n. let e : has_numbers (minus f (scaled d c.in_ok-quotient.quotient)) ≡ false = simp to_z-of_z at (c.in_err-rest.ensures n) in
    and_left (condition_fits (upper f d q (left_over f d q) size)) (condition_fits (lower f d q (left_over f d q) size))
    (rest_unfit Ge Ge Le f (left_over f d q) (pos 0) (size -ℤ pos 1)
    (ap (λ y. has_numbers (minus f (scaled d y))) (sym c.in_ok-quotient.ensures) ∙ e)))

pub returns-in_err-up : goal.returns-in_err-up
returns-in_err-up c =
    let f = c.args.form.now in
    let d = c.args.divisor in
    let q = c.args.quotient in
    let v = c.ranges.divisor in
    let w : FitsSigned w128 c.size_of-size.result = search rules in
    let rest : c.in_ok-rest.rest ≡ minus f (scaled d c.in_ok-quotient.quotient) = (simp to_z-of_z at c.in_ok-rest.ensures).0 in
    let whole : c.in_ok-rest.rest ≡ left_over f d q = rest ∙ ap (λ y. minus f (scaled d y)) c.in_ok-quotient.ensures in
    let size : c.size_of-size.result ≡ pos (nat_abs d) = simp to_z-of_z at c.size_of-size.ensures.value in
    handed _ _ _ c.in_err-up.field-0.0 _ c.from_residual-in_err-up.ensures.1
    (λ n. let e : condition_fits (upper f d q c.in_ok-rest.rest c.size_of-size.result) ≡ false =
    simp to_z-of_z at (c.in_err-up.ensures n) in
    and_left (condition_fits (upper f d q (left_over f d q) (pos (nat_abs d))))
    (condition_fits (lower f d q (left_over f d q) (pos (nat_abs d))))
    (ap₂ (λ r z. condition_fits (upper f d q r z)) (sym whole) (sym size) ∙ e))

pub returns-in_err-down : goal.returns-in_err-down
returns-in_err-down c =
    let f = c.args.form.now in
    let d = c.args.divisor in
    let q = c.args.quotient in
    let v = c.ranges.divisor in
    let w : FitsSigned w128 c.size_of-size.result = search rules in
    let rest : c.in_ok-rest.rest ≡ minus f (scaled d c.in_ok-quotient.quotient) = (simp to_z-of_z at c.in_ok-rest.ensures).0 in
    let whole : c.in_ok-rest.rest ≡ left_over f d q = rest ∙ ap (λ y. minus f (scaled d y)) c.in_ok-quotient.ensures in
    let size : c.size_of-size.result ≡ pos (nat_abs d) = simp to_z-of_z at c.size_of-size.ensures.value in
    handed _ _ _ c.in_err-down.field-0.0 _ c.from_residual-in_err-down.ensures.1
    (λ n. let e : condition_fits (lower f d q c.in_ok-rest.rest c.size_of-size.result) ≡ false =
    simp to_z-of_z at (c.in_err-down.ensures n) in
    and_right (condition_fits (upper f d q (left_over f d q) (pos (nat_abs d))))
    (condition_fits (lower f d q (left_over f d q) (pos (nat_abs d))))
    (ap₂ (λ r z. condition_fits (lower f d q r z)) (sym whole) (sym size) ∙ e))

pub returns : goal.returns
returns c =
    let f = c.args.form.now in
    let d = c.args.divisor in
    let q = c.args.quotient in
    let v = c.ranges.divisor in
    let w : FitsSigned w128 c.size_of-size.result = search rules in
    let rest : c.in_ok-rest.rest ≡ minus f (scaled d c.in_ok-quotient.quotient) = (simp to_z-of_z at c.in_ok-rest.ensures).0 in
    let whole : c.in_ok-rest.rest ≡ left_over f d q = rest ∙ ap (λ y. minus f (scaled d y)) c.in_ok-quotient.ensures in
    let size : c.size_of-size.result ≡ pos (nat_abs d) = simp to_z-of_z at c.size_of-size.ensures.value in
    let up : IsCondition c.in_ok-up.up (upper f d q c.in_ok-rest.rest c.size_of-size.result) = simp to_z-of_z at c.in_ok-up.ensures in
    let down : IsCondition c.in_ok-down.down (lower f d q c.in_ok-rest.rest c.size_of-size.result) =
    simp to_z-of_z at c.in_ok-down.ensures in
    let over = ap₂ (λ r z. upper f d q r z) whole size in
    let under = ap₂ (λ r z. lower f d q r z) whole size in
    let u = upper f d q (left_over f d q) (pos (nat_abs d)) in
    let l = lower f d q (left_over f d q) (pos (nat_abs d)) in (
      c.in_ok-either.ensures ∙ ap₂ either (up.0 ∙ over) (down.0 ∙ under),
      and_from (condition_fits u) (condition_fits l) (ap condition_fits (sym over) ∙ up.1) (ap condition_fits (sym under) ∙ down.1),
    )
