use Rattle.std.proofs.Common.{◌≡◌, ◌∙◌, ℕ, ◌+◌, ◌<◌, ◌≤◌, List, length, refl, ap, arith}
use Rattle.std.specs.Prelude.{Some, slice_get}
use Rattle.std.proofs.lemmas.Result.{err_from_is_err_and}
use Rattle.base_fractions.specs.Operation.{operation_of}
use Rattle.flow_edges.specs.declared.edge.Edge.{Edge}
use Rattle.flow_systems.specs.declared.system.System.{System}
use Rattle.flow_systems.specs.View.{equations_of}
use Rattle.theory_validity.specs.Words.{width}
use Rattle.solve_composition.specs.Composed.{AreComposed, EdgeForms, edge_forms}
use Rattle.solve_composition.proofs.composed.Edges.{width_is}
use Rattle.cert_checker.specs.Events.{fault_answer, wide_answer}
use Rattle.cert_checker.proofs.combination.Forms.{forms_at}
use Rattle.cert_checker.proofs.evidence.Sums.{told_no, told_yes}
use Rattle.cert_checker.proofs.evidence.Columns.{At, columns_more, columns_stop, columns_all}
use Rattle.cert_checker.proofs.evidence.columns_pass.Goals as goal

-- the columns that are walked are those of the edge's words
walked : (system : System) (paths : List EdgeForms) → AreComposed (equations_of system) paths → (edge : ℕ) (e : Edge)
    → slice_get system.flow.edges edge ≡ Some e → (names : List (List ℕ)) (frees : ℕ) → names ≡ system.flow.names
    → ((forms : EdgeForms) → slice_get paths edge ≡ Some forms → frees ≡ forms.frees)
    → length names + frees ≡ width (length system.flow.names) e.actions
walked system paths composed edge e f names frees same read =
    let S = equations_of system in
    ap (λ ns. length ns + frees) same ∙ width_is S.variables frees e.actions
    (read (edge_forms S.variables S.template e.actions) (forms_at S paths composed edge e f))

pub loop-column-init : goal.loop-column-init
loop-column-init c = λ e f site fault. refl

pub column_passes-requires-clause-column : goal.column_passes-requires-clause-column
column_passes-requires-clause-column c = λ e f.
    let S = equations_of c.args.system.now in
    let w = walked c.args.system.now c.args.paths.now c.requires.paths c.args.edge e f c.as_slice.result.now c.frees.result
    c.as_slice.ensures c.frees.ensures in
    omega (arith, w, c.loop-column-test.true)

pub returns-in_err-column_passes : goal.returns-in_err-column_passes
returns-in_err-column_passes c = λ e f site fault.
    let p = err_from_is_err_and c.from_residual.result c.from_residual.ensures.1 in
    let S = equations_of c.args.system.now in
    let w = walked c.args.system.now c.args.paths.now c.requires.paths c.args.edge e f c.as_slice.result.now c.frees.result
    c.as_slice.ensures c.frees.ensures in
    let l : c.loop-column.column < width S.variables e.actions = omega (arith, w, c.loop-column-test.true) in
    rw (p.1, p.2)
    (columns_stop site fault S e c.args.rows.now c.args.guards.now c.args.goal.now c.loop-column.column
    (c.loop-column.invariant e f site fault) l (wide_answer site (operation_of (λ q. q) c.in_err-column_passes.field-0.0))
    (c.in_err-column_passes.ensures e f site fault))

pub returns-then-is_none : goal.returns-then-is_none
returns-then-is_none c = λ e f site fault.
    let S = equations_of c.args.system.now in
    let w = walked c.args.system.now c.args.paths.now c.requires.paths c.args.edge e f c.as_slice.result.now c.frees.result
    c.as_slice.ensures c.frees.ensures in
    let l : c.loop-column.column < width S.variables e.actions = omega (arith, w, c.loop-column-test.true) in
    let es = At site fault S e c.args.rows.now c.args.guards.now c.args.goal.now c.loop-column.column in
    columns_stop site fault S e c.args.rows.now c.args.guards.now c.args.goal.now c.loop-column.column
    (c.loop-column.invariant e f site fault) l (fault_answer fault)
    (told_no es fault c.in_ok-column_passes.field-0 c.is_none.result c.is_none.ensures c.if-is_none.true
    (c.in_ok-column_passes.ensures e f site fault))

pub loop-column-preserved : goal.loop-column-preserved
loop-column-preserved c = λ e f site fault.
    let S = equations_of c.args.system.now in
    let w = walked c.args.system.now c.args.paths.now c.requires.paths c.args.edge e f c.as_slice.result.now c.frees.result
    c.as_slice.ensures c.frees.ensures in
    let l : c.loop-column.column < width S.variables e.actions = omega (arith, w, c.loop-column-test.true) in
    let es = At site fault S e c.args.rows.now c.args.guards.now c.args.goal.now c.loop-column.column in
    columns_more site fault S e c.args.rows.now c.args.guards.now c.args.goal.now c.loop-column.column
    (c.loop-column.invariant e f site fault) l
    (told_yes es fault c.in_ok-column_passes.field-0 c.is_none.result c.is_none.ensures c.if-is_none.false
    (c.in_ok-column_passes.ensures e f site fault))

pub returns : goal.returns
returns c = λ e f site fault.
    let S = equations_of c.args.system.now in
    let w = walked c.args.system.now c.args.paths.now c.requires.paths c.args.edge e f c.as_slice.result.now c.frees.result
    c.as_slice.ensures c.frees.ensures in
    let l : width S.variables e.actions ≤ c.loop-column.column = omega (arith, w, c.loop-column-test.false) in (
      tt,
      columns_all site fault S e c.args.rows.now c.args.guards.now c.args.goal.now c.loop-column.column
          (c.loop-column.invariant e f site fault) l,
    )
