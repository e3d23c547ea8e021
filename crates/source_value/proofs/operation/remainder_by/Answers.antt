use Rattle.std.proofs.Common.{◌≡◌, ◌∙◌, ap, sym, subst, suc, rules, FitsSigned, false, true}
use Rattle.std.specs.Prelude.{int_rem}
use Rattle.std.proofs.lemmas.Int.{to_z-of_z}
use mir.Syntax.{w64, w128}
use Rattle.lang_tree.specs.Limits.{has_numbers}
use Rattle.source_core.specs.Forms.{constant_form, variable_form, is_constant, minus, scaled}
use Rattle.source_core.specs.Elaborated.{form_behind, quotient_behind, remainder_by, is_unit}
use Rattle.source_core.specs.Fits.{fits}
use Rattle.source_value.specs.Answers.{IsForm}
use Rattle.source_value.specs.Stands.{Stands, StandsEvaluated}
use Rattle.source_value.proofs.answers.Parts.{form_unfit}
use Rattle.source_value.proofs.answers.Handed.{handed, wanted_as}
use Rattle.source_value.proofs.answers.Behind.{form_stands}
use Rattle.source_value.proofs.answers.Divisions.{remainder-constant, remainder-left, left}
use Rattle.source_value.proofs.operation.remainder_by.Goals as goal

pub returns-in_err-constant_form-2 : goal.returns-in_err-constant_form-2
returns-in_err-constant_form-2 c = λ d s.
    let n = c.args.site.variables in
    let line = c.args.site.line in
    let f = c.args.form.now in
    let z = c.args.divisor in
    let v = c.ranges.divisor in
    let whole = constant_form (int_rem f.constant z) in
    let fw : FitsSigned w64 c.args.form.now.constant = search rules in
    let w : FitsSigned w128 c.remainder_of-remainder.result = search rules in
    let same : c.remainder_of-remainder.result ≡ int_rem f.constant z = simp to_z-of_z at c.remainder_of-remainder.ensures in
    let unit : is_unit z ≡ false = sym (simp to_z-of_z at c.is_unit.ensures) ∙ c.if-is_unit.false in
    let constant : is_constant f ≡ true = sym c.is_constant.ensures ∙ c.if-is_constant.true in
    wanted_as (Stands n) fits _ (form_behind d.prelude d.next whole) (remainder_by line d.prelude d.next f z)
    (sym (remainder-constant line d.prelude d.next f z unit constant))
    (handed (Stands n) fits _ c.in_err-constant_form-2.field-0.0 (form_behind d.prelude d.next whole)
    c.from_residual-in_err-constant_form-2.ensures.1
    (λ m. let e : has_numbers (constant_form c.remainder_of-remainder.result) ≡ false =
    simp to_z-of_z at (c.in_err-constant_form-2.ensures m) in
    form_unfit d.prelude whole (ap (λ x. has_numbers (constant_form x)) (sym same) ∙ e)))

pub returns-in_ok-constant_form-2 : goal.returns-in_ok-constant_form-2
returns-in_ok-constant_form-2 c = λ d s.
    let n = c.args.site.variables in
    let line = c.args.site.line in
    let f = c.args.form.now in
    let z = c.args.divisor in
    let v = c.ranges.divisor in
    let whole = constant_form (int_rem f.constant z) in
    let form = c.in_ok-constant_form-2.field-0 in
    let fw : FitsSigned w64 c.args.form.now.constant = search rules in
    let w : FitsSigned w128 c.remainder_of-remainder.result = search rules in
    let same : c.remainder_of-remainder.result ≡ int_rem f.constant z = simp to_z-of_z at c.remainder_of-remainder.ensures in
    let unit : is_unit z ≡ false = sym (simp to_z-of_z at c.is_unit.ensures) ∙ c.if-is_unit.false in
    let constant : is_constant f ≡ true = sym c.is_constant.ensures ∙ c.if-is_constant.true in
    let i : IsForm c.in_ok-constant_form-2.field-0 (constant_form c.remainder_of-remainder.result) =
    simp to_z-of_z at c.in_ok-constant_form-2.ensures in
    let b = c.form_behind-then-is_constant.ensures in
    subst (λ e. Stands n c.form_behind-then-is_constant.result e) (sym (remainder-constant line d.prelude d.next f z unit constant))
    (form_stands n c.form_behind-then-is_constant.result c.args.before d c.in_ok-constant_form-2.field-0 whole s b.prelude b.result b.next
    (subst (λ x. IsForm c.in_ok-constant_form-2.field-0 (constant_form x)) same i))

pub returns-in_err-left : goal.returns-in_err-left
returns-in_err-left c = λ d s.
    let n = c.args.site.variables in
    let line = c.args.site.line in
    let f = c.args.form.now in
    let z = c.args.divisor in
    let v = c.ranges.divisor in
    let whole = left line d.prelude d.next f z in
    let behind = quotient_behind line d.prelude d.next f z in
    let unit : is_unit z ≡ false = sym (simp to_z-of_z at c.is_unit.ensures) ∙ c.if-is_unit.false in
    let constant : is_constant f ≡ false = sym c.is_constant.ensures ∙ c.if-is_constant.false in
    let hide = c.in_ok-hidden.ensures ∙ ap variable_form s.next in
    wanted_as (Stands n) fits _ (form_behind behind (suc d.next) whole) (remainder_by line d.prelude d.next f z)
    (sym (remainder-left line d.prelude d.next f z unit constant))
    (handed (Stands n) fits _ c.in_err-left.field-0.0 (form_behind behind (suc d.next) whole) c.from_residual-in_err-left.ensures.1
    (λ m. let e : has_numbers (minus f (scaled z c.in_ok-hidden.hidden)) ≡ false = simp to_z-of_z at (c.in_err-left.ensures m) in
    form_unfit behind whole (ap (λ x. has_numbers (minus f (scaled z x))) (sym hide) ∙ e)))

pub returns-in_ok-after : goal.returns-in_ok-after
returns-in_ok-after c = λ d s.
    let n = c.args.site.variables in
    let line = c.args.site.line in
    let f = c.args.form.now in
    let z = c.args.divisor in
    let v = c.ranges.divisor in
    let whole = left line d.prelude d.next f z in
    let behind = quotient_behind line d.prelude d.next f z in
    let unit : is_unit z ≡ false = sym (simp to_z-of_z at c.is_unit.ensures) ∙ c.if-is_unit.false in
    let constant : is_constant f ≡ false = sym c.is_constant.ensures ∙ c.if-is_constant.false in
    let hide = c.in_ok-hidden.ensures ∙ ap variable_form s.next in
    let i : IsForm c.in_ok-left.left (minus f (scaled z c.in_ok-hidden.hidden)) = simp to_z-of_z at c.in_ok-left.ensures in
    let t : StandsEvaluated n c.in_ok-after.after (record { prelude = behind; next = suc d.next }) =
    (simp to_z-of_z at (c.in_ok-after.ensures d s)) in
    let b = c.form_behind-else-is_constant.ensures in
    subst (λ e. Stands n c.form_behind-else-is_constant.result e) (sym (remainder-left line d.prelude d.next f z unit constant))
    (form_stands n c.form_behind-else-is_constant.result c.in_ok-after.after (record { prelude = behind; next = suc d.next })
    c.in_ok-left.left whole t b.prelude b.result b.next (subst (λ x. IsForm c.in_ok-left.left (minus f (scaled z x))) hide i))
