use Rattle.std.proofs.Common.{◌∙◌, ap, ap₂, sym, rules, FitsSigned, w64, ◌+ℤ◌, ◌*ℤ◌, map}
use Rattle.std.proofs.lemmas.Int.{to_z-of_z}
use Rattle.std.proofs.lemmas.Bool.{and_from}
use Rattle.lang_tree.specs.Numbers.{is_number, are_numbers}
use Rattle.source_core.specs.Forms.{sums}
use Rattle.source_value.proofs.forms.Made.{form_with}
use Rattle.source_value.proofs.forms.multiple_of_form_added.Goals as goal

pub returns : goal.returns
returns c =
    let f = c.args.left.now in
    let g = c.args.right.now in
    let z = c.args.factor in
    let zf = c.ranges.factor in
    let fw : FitsSigned w64 f.constant = search rules in
    let gw : FitsSigned w64 g.constant = search rules in
    let h : FitsSigned w64 c.in_ok-constant.constant = search rules in
    let e = simp to_z-of_z at c.in_ok-list.ensures.list in
    let k = simp to_z-of_z at c.in_ok-constant.ensures in
    let l = ap₂ (λ a b. sums a (map (λ x. z *ℤ x) b)) c.as_slice.ensures.list c.as_slice-2.ensures.list in (
      ap₂ form_with (c.new.ensures ∙ e ∙ l) (to_z-of_z w64 c.in_ok-constant.constant h ∙ k.0),
      and_from (are_numbers (sums f.coeffs (map (λ x. z *ℤ x) g.coeffs))) (is_number (f.constant +ℤ (z *ℤ g.constant)))
          (ap are_numbers (sym (e ∙ l)) ∙ c.in_ok-list.ensures.numbers) k.1,
    )
