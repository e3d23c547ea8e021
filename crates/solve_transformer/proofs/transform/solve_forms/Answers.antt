use Rattle.std.proofs.Common.{◌+◌, length, ap, refl}
use Rattle.base_numbers.specs.Rational.{ℚ}
use Rattle.lp_dictionary.specs.Exact.{exact}
use Rattle.flow_systems.specs.View.{equations_of}
use Rattle.solve_transformer.proofs.build.Built.{sizes_for}
use Rattle.solve_transformer.proofs.transform.Operated.{template_over}
use Rattle.solve_transformer.proofs.transform.Answered.{source_moved, answered_solved}
use Rattle.solve_transformer.proofs.transform.solve_forms.Goals as goal

pub solve_problem-requires-clause-shaped : goal.solve_problem-requires-clause-shaped
solve_problem-requires-clause-shaped c =
    let s = c.args.system.now in
    let system = equations_of s in
    let h = c.requires.forms in
    let n = length c.as_slice.result.now in
    let columns = ap (λ m. m + c.args.frees) (ap length c.as_slice.ensures) in
    let template = c.as_slice-template.result.now in
    let source = source_moved system h.vector h.edge h.row (length s.flow.names + c.args.frees) (n + c.args.frees) s.template template
    c.args.source.now c.args.guards.now c.args.form.now columns c.as_slice-template.ensures.rows h.is in
    (c.in-Ok.ensures system h.vector h.edge h.row (template_over s) source).1

pub returns-in-Ok : goal.returns-in-Ok
returns-in-Ok c = λ z edge row is none.
    let s = c.args.system.now in
    let system = equations_of s in
    let n = length c.as_slice.result.now in
    let same = ap length c.as_slice.ensures in
    let w = n + c.args.frees in
    let template = c.as_slice-template.result.now in
    let guards = c.args.guards.now in
    let source = source_moved system z edge row (length s.flow.names + c.args.frees) w s.template template c.args.source.now guards
    c.args.form.now (ap (λ m. m + c.args.frees) same) c.as_slice-template.ensures.rows is in
    let problem = c.in-Ok.ensures system z edge row (template_over s) source in
    let P = exact (λ (q : ℚ). q) c.in-Ok.problem in
    let has = sizes_for system z edge row w template c.args.source.now guards c.args.form.now source (length guards) refl P problem.0 in
    answered_solved system z edge row w template c.args.source.now guards c.args.form.now source P problem.0 n same (length guards) refl
    none
    c.solve_problem.result (c.solve_problem.ensures.value template refl has) c.solve_problem.ensures.pivots
    (c.solve_problem.ensures.reading template refl has) (c.solve_problem.ensures.refused template refl has)
