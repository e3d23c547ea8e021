use Rattle.std.proofs.Common.{◌≡◌, ◌∙◌, ◌-◌, ◌++◌, length, ap, sym, length-append, arith}
use Rattle.std.proofs.lemmas.List.{length-map}
use Rattle.base_numbers.proofs.vector.Vectors.{length-zeros}
use Rattle.base_numbers.specs.Vector.{zeros}
use Rattle.theory_transformers.specs.JointProblems.{ones}
use Rattle.theory_transformers.proofs.joint_problems.JointProducts.{length-ones}
use Rattle.solve_joint.specs.Blocks.{split_columns}
use Rattle.solve_joint.proofs.joint_problem.EdgeSizes.{few_rows}
use Rattle.solve_joint.proofs.joint_problem.FewEntries.{entries_few}
use Rattle.solve_joint.proofs.joint_rows.Picking.{few_listed}
use Rattle.solve_joint.proofs.joint_problem.SameProblem.{counted, row_length, made_problem}
use Rattle.solve_joint.proofs.joint_problem.joint_problem.Goals as goal

pub returns-clause-problem : goal.returns-clause-problem
returns-clause-problem c =
    let n = length c.args.list.now in
    let more = split_columns c.args.system.now c.args.pick.now c.args.list.now in
    let cols = c.count_columns-cols.result in
    let left : cols - n ≡ more = omega (arith, c.count_columns-cols.ensures.count) in
    made_problem c.args.system.now c.args.pick.now c.args.base.now c.args.list.now cols _ _ c.in_ok-goal.goal c.requires.rises
    c.requires.picked c.count_columns-cols.ensures.count c.in_ok-rows.ensures.0
    (c.in_ok-goal.ensures ∙ ap (λ m. ones n ++ zeros m) left)

pub returns-clause-shape : goal.returns-clause-shape
returns-clause-shape c =
    let n = length c.args.list.now in
    let cols = c.count_columns-cols.result in
    let size = ap length c.in_ok-goal.ensures in
    let a = length-append (ones n) (zeros (cols - n)) in
    let o = length-ones n in
    let z = length-zeros (cols - n) in
    let e : length c.in_ok-goal.goal ≡ cols = omega (arith, c.count_columns-cols.ensures.count, size, a, o, z) in
    λ r l. row_length cols _ _ _ c.in_ok-rows.ensures.0 r l ∙ sym e

pub returns-clause-few : goal.returns-clause-few
returns-clause-few c =
    let system = c.args.system.now in
    let pick = c.args.pick.now in
    let list = c.args.list.now in
    let cols = c.count_columns-cols.result in
    let n = length list in
    let size = ap length c.in_ok-goal.ensures in
    let a = length-append (ones n) (zeros (cols - n)) in
    let o = length-ones n in
    let z = length-zeros (cols - n) in
    let rows = c.in_ok-rows.rows.items in
    let k = counted cols _ _ _ c.in_ok-rows.ensures.0 in
    let m = length-map rows (λ r. r.coeffs) in
    let f = few_rows system pick c.args.base.now list 0 list c.requires.picked in
    let l = few_listed system pick list c.requires.rises c.requires.picked in
    let k0 = k.0 in
    let k1 = k.1 in
    omega (arith, c.count_columns-cols.ensures.count, c.count_columns-cols.ensures.few, size, a, o, z, k0, k1, m, f, l)

pub returns-clause-cells : goal.returns-clause-cells
returns-clause-cells c =
    let n = length c.args.list.now in
    entries_few c.args.system.now c.args.pick.now c.args.base.now c.args.list.now c.requires.rises c.count_columns-cols.result
    _ _ c.in_ok-goal.goal (c.count_columns-cols.result - n) c.in_ok-rows.ensures.0 c.in_ok-goal.ensures
