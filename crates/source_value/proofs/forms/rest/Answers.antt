use Rattle.std.proofs.Common.{◌≡◌, ◌∙◌, neg_ℤ, ◌+ℤ◌, ℤ, pos, rules, FitsSigned, subst, sym, ap, arith}
use Rattle.std.proofs.lemmas.Int.{ints, to_z-of_z}
use mir.Syntax.{w128}
use Rattle.lang_tree.specs.Limits.{has_numbers}
use Rattle.source_core.specs.Forms.{plus, minus, scaled}
use Rattle.source_value.specs.Answers.{IsForm}
use Rattle.source_value.proofs.answers.Handed.{wanted_as}
use Rattle.source_value.proofs.forms.Made.{minus-scaled}
use Rattle.source_value.proofs.forms.rest.Goals as goal

zero_plus : (x : ℤ) → pos 0 +ℤ x ≡ x
zero_plus x = omega (arith, ints)

pub returns : goal.returns
returns c =
    let form = c.args.form.now in
    let quotient = c.args.quotient.now in
    let z = neg_ℤ c.args.divisor in
    let d = c.ranges.divisor in
    let dw : FitsSigned w128 c.args.divisor = search rules in
    let nw : FitsSigned w128 (neg_ℤ c.args.divisor) = search rules in
    let sw : FitsSigned w128 (pos 0 +ℤ neg_ℤ c.args.divisor) = subst (λ (x : ℤ). FitsSigned w128 x) (sym (zero_plus z)) nw in
    wanted_as IsForm has_numbers c.multiple_of_form_added.result (plus form (scaled (pos 0 +ℤ z) quotient))
    (minus form (scaled c.args.divisor quotient))
    (ap (λ x. plus form (scaled x quotient)) (zero_plus z) ∙ minus-scaled form quotient c.args.divisor)
    (simp to_z-of_z at c.multiple_of_form_added.ensures)
