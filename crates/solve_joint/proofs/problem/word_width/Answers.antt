use Rattle.std.proofs.Common.{ap, ap₂, length, ◌+◌, arith}
use Rattle.theory_validity.specs.Words.{width}
use Rattle.solve_joint.specs.Blocks.{edge_at}
use Rattle.solve_composition.specs.Composed.{edge_forms}
use Rattle.solve_joint.proofs.problem.PathForms.{path_at}
use Rattle.solve_joint.proofs.joint_problem.EdgeSizes.{few_columns}
use Rattle.solve_joint.proofs.problem.word_width.Goals as goal

pub returns-clause-width : goal.returns-clause-width
unfolding width
returns-clause-width c =
    let system = c.args.system.now in
    let p = path_at system c.args.paths.now c.args.edge c.requires.composed c.requires.edge in
    ap₂ (λ x y. x + y) (ap (λ xs. length xs) c.as_slice.ensures) (c.frees.ensures
    (edge_forms (length system.flow.names) system.template (edge_at system c.args.edge).actions) p)

pub returns-clause-few : goal.returns-clause-few
returns-clause-few c = omega (arith, returns-clause-width c, few_columns c.args.system.now c.args.edge c.requires.edge)
