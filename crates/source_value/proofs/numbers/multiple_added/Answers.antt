use Rattle.std.proofs.Common.{rules, ap, FitsSigned, ◌+ℤ◌, ◌*ℤ◌}
use Rattle.std.proofs.lemmas.Int.{to_z-of_z}
use mir.Syntax.{w128}
use Rattle.lang_tree.specs.Numbers.{is_number}
use Rattle.source_value.specs.Answers.{IsNumber}
use Rattle.source_value.proofs.answers.Handed.{wanted_as}
use Rattle.source_value.proofs.numbers.multiple_added.Goals as goal

pub returns : goal.returns
returns c =
    let l = c.ranges.left in
    let f = c.ranges.factor in
    let r = c.ranges.right in
    let lw : FitsSigned w128 c.args.left = search rules in
    let p : FitsSigned w128 c.product.result = search rules in
    let s : FitsSigned w128 (c.args.left +ℤ c.product.result) = search rules in
    let v = simp to_z-of_z at c.product.ensures.value in
    wanted_as IsNumber is_number c.ranged.result (c.args.left +ℤ c.product.result) (c.args.left +ℤ (c.args.factor *ℤ c.args.right))
    (ap (λ x. c.args.left +ℤ x) v) (simp to_z-of_z at c.ranged.ensures)
