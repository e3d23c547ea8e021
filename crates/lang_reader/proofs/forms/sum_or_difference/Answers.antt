use Rattle.std.proofs.Common.{FitsSigned, rules, ◌+ℤ◌, ◌-ℤ◌}
use Rattle.std.proofs.lemmas.Int.{to_z-of_z}
use mir.Syntax.{w128}
use Rattle.lang_reader.proofs.forms.sum_or_difference.Goals as goal

pub returns-then-subtracts : goal.returns-then-subtracts
returns-then-subtracts c =
    let f = c.ranges.left in
    let g = c.ranges.right in
    let l : FitsSigned w128 c.args.left = search rules in
    let r : FitsSigned w128 c.args.right = search rules in
    let s : FitsSigned w128 (c.args.left -ℤ c.args.right) = search rules in
    rw c.if-subtracts.true (simp to_z-of_z at c.ranged_number.ensures)

pub returns-else-subtracts : goal.returns-else-subtracts
returns-else-subtracts c =
    let f = c.ranges.left in
    let g = c.ranges.right in
    let l : FitsSigned w128 c.args.left = search rules in
    let r : FitsSigned w128 c.args.right = search rules in
    let s : FitsSigned w128 (c.args.left +ℤ c.args.right) = search rules in
    rw c.if-subtracts.false (simp to_z-of_z at c.ranged_number-else-subtracts.ensures)
