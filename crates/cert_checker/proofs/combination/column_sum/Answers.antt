use Rattle.std.proofs.Common.{◌∙◌, length, get_or, sym}
use Rattle.std.proofs.lemmas.Result.{err_from_is_err_and}
use Rattle.base_fractions.specs.Operation.{operation_of}
use Rattle.flow_systems.specs.SystemLimits.{is_over}
use Rattle.flow_systems.specs.View.{equations_of}
use Rattle.flow_systems.proofs.Sizes.{both}
use Rattle.cert_checker.proofs.combination.Forms.{no_edge, edge_there, guard_count}
use Rattle.cert_checker.proofs.law.Combinations.{column_refused, column_answers}
use Rattle.cert_checker.proofs.combination.column_sum.Goals as goal

pub returns-in_err-sum : goal.returns-in_err-sum
returns-in_err-sum c = λ e f.
    let p = err_from_is_err_and c.from_residual.result c.from_residual.ensures.1 in
    rw (p.1, p.2) (column_refused (equations_of c.args.system.now) e c.args.rows.now c.args.guards.now c.args.column
    (operation_of (λ q. q) c.in_err-sum.field-0.0) c.in_err-sum.ensures)

pub guard_sum-requires-clause-guards : goal.guard_sum-requires-clause-guards
guard_sum-requires-clause-guards c = λ forms at.
    let S = equations_of c.args.system.now in
    let e = get_or c.args.system.now.flow.edges c.args.edge no_edge in
    let f = edge_there c.args.system.now.flow.edges c.args.edge c.requires.edge in
    c.requires.guards e f ∙ sym (guard_count S c.args.paths.now c.requires.paths c.args.edge e f forms at)

pub returns : goal.returns
returns c = λ e f.
    let S = equations_of c.args.system.now in
    let over = (both (is_over (length c.args.system.now.flow.names) c.args.system.now.template) _ c.args.system.now.within_limits).0 in
    column_answers S e c.args.rows.now c.args.guards.now c.args.paths.now c.requires.paths c.args.edge f c.requires.rows over c.args.column
    (c.requires.column e f) c.in_ok-sum.sum c.in_ok-sum.ensures.0 c.in_ok-sum.ensures.1 c.guard_sum.result c.guard_sum.ensures
