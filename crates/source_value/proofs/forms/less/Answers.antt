use Rattle.std.proofs.Common.{◌∙◌, ◌-ℤ◌, ap, ap₂, sym, rules, FitsSigned, w64, false, ◌≡◌}
use Rattle.std.proofs.lemmas.Int.{to_z-of_z}
use Rattle.std.proofs.lemmas.Bool.{and_from, and_right}
use mir.Syntax.{w128}
use Rattle.lang_tree.specs.Numbers.{is_number, are_numbers}
use Rattle.lang_tree.specs.Limits.{has_numbers}
use Rattle.source_value.proofs.answers.Handed.{handed}
use Rattle.source_value.proofs.forms.Made.{form_with, minus-constant}
use Rattle.source_value.proofs.forms.less.Goals as goal

pub returns-in_err-ranged : goal.returns-in_err-ranged
returns-in_err-ranged c =
    let k = c.ranges.number in
    let f = c.args.form.now in
    let g : FitsSigned w64 f.constant = search rules in
    let w : FitsSigned w128 f.constant = search rules in
    let s : FitsSigned w128 (f.constant -ℤ c.args.number) = search rules in
    handed _ _ _ c.in_err-ranged.field-0.0 _ c.from_residual-in_err-ranged.ensures.1
    (λ n. let e : is_number (f.constant -ℤ c.args.number) ≡ false = simp to_z-of_z at (c.in_err-ranged.ensures n) in
    ap has_numbers (minus-constant f c.args.number) ∙ and_right (are_numbers f.coeffs) (is_number (f.constant -ℤ c.args.number)) e)

pub returns : goal.returns
returns c =
    let k = c.ranges.number in
    let f = c.args.form.now in
    let g : FitsSigned w64 f.constant = search rules in
    let w : FitsSigned w128 f.constant = search rules in
    let s : FitsSigned w128 (f.constant -ℤ c.args.number) = search rules in
    let h : FitsSigned w64 c.in_ok-ranged.field-0 = search rules in
    let e = simp to_z-of_z at c.in_ok-ranged.ensures in (
      ap₂ form_with c.in_ok-again.ensures (to_z-of_z w64 c.in_ok-ranged.field-0 h ∙ e.0) ∙ sym (minus-constant f c.args.number),
      ap has_numbers (minus-constant f c.args.number)
          ∙ and_from (are_numbers f.coeffs) (is_number (f.constant -ℤ c.args.number)) c.as_slice-numbers.ensures.numbers e.1,
    )
