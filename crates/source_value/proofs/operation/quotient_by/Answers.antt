use Rattle.std.proofs.Common.{◌≡◌, ◌∙◌, ap, sym, subst, rules, FitsSigned, false, true}
use Rattle.std.specs.Prelude.{int_div}
use Rattle.std.proofs.lemmas.Int.{to_z-of_z}
use mir.Syntax.{w64, w128}
use Rattle.lang_tree.specs.Limits.{has_numbers}
use Rattle.source_core.specs.Forms.{constant_form, is_constant}
use Rattle.source_core.specs.Elaborated.{form_behind, quotient_by, is_unit}
use Rattle.source_core.specs.Fits.{fits}
use Rattle.source_value.specs.Answers.{IsForm}
use Rattle.source_value.specs.Stands.{Stands}
use Rattle.source_value.proofs.answers.Parts.{form_unfit}
use Rattle.source_value.proofs.answers.Handed.{handed, wanted_as}
use Rattle.source_value.proofs.answers.Behind.{form_stands}
use Rattle.source_value.proofs.answers.Divisions.{quotient-constant}
use Rattle.source_value.proofs.operation.quotient_by.Goals as goal

pub returns-in_err-constant_form : goal.returns-in_err-constant_form
returns-in_err-constant_form c = λ d s.
    let n = c.args.site.variables in
    let line = c.args.site.line in
    let f = c.args.form.now in
    let z = c.args.divisor in
    let v = c.ranges.divisor in
    let whole = constant_form (int_div f.constant z) in
    let fw : FitsSigned w64 c.args.form.now.constant = search rules in
    let w : FitsSigned w128 c.quotient_of-quotient.result = search rules in
    let same : c.quotient_of-quotient.result ≡ int_div f.constant z = simp to_z-of_z at c.quotient_of-quotient.ensures in
    let unit : is_unit z ≡ false = sym (simp to_z-of_z at c.is_unit.ensures) ∙ c.if-is_unit.false in
    let constant : is_constant f ≡ true = sym c.is_constant.ensures ∙ c.if-is_constant.true in
    wanted_as (Stands n) fits _ (form_behind d.prelude d.next whole) (quotient_by line d.prelude d.next f z)
    (sym (quotient-constant line d.prelude d.next f z unit constant))
    (handed (Stands n) fits _ c.in_err-constant_form.field-0.0 (form_behind d.prelude d.next whole)
    c.from_residual-in_err-constant_form.ensures.1
    (λ m. let e : has_numbers (constant_form c.quotient_of-quotient.result) ≡ false =
    simp to_z-of_z at (c.in_err-constant_form.ensures m) in
    form_unfit d.prelude whole (ap (λ x. has_numbers (constant_form x)) (sym same) ∙ e)))

pub returns-in_ok-constant_form : goal.returns-in_ok-constant_form
returns-in_ok-constant_form c = λ d s.
    let n = c.args.site.variables in
    let line = c.args.site.line in
    let f = c.args.form.now in
    let z = c.args.divisor in
    let v = c.ranges.divisor in
    let whole = constant_form (int_div f.constant z) in
    let form = c.in_ok-constant_form.field-0 in
    let fw : FitsSigned w64 c.args.form.now.constant = search rules in
    let w : FitsSigned w128 c.quotient_of-quotient.result = search rules in
    let same : c.quotient_of-quotient.result ≡ int_div f.constant z = simp to_z-of_z at c.quotient_of-quotient.ensures in
    let unit : is_unit z ≡ false = sym (simp to_z-of_z at c.is_unit.ensures) ∙ c.if-is_unit.false in
    let constant : is_constant f ≡ true = sym c.is_constant.ensures ∙ c.if-is_constant.true in
    let i : IsForm c.in_ok-constant_form.field-0 (constant_form c.quotient_of-quotient.result) =
    simp to_z-of_z at c.in_ok-constant_form.ensures in
    let b = c.form_behind-then-is_constant.ensures in
    subst (λ e. Stands n c.form_behind-then-is_constant.result e) (sym (quotient-constant line d.prelude d.next f z unit constant))
    (form_stands n c.form_behind-then-is_constant.result c.args.before d c.in_ok-constant_form.field-0 whole s b.prelude b.result b.next
    (subst (λ x. IsForm c.in_ok-constant_form.field-0 (constant_form x)) same i))
