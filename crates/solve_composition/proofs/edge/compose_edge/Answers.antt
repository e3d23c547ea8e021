use Rattle.std.proofs.Common.{◌∙◌, ◌+◌, length, arith}
use Rattle.std.proofs.lemmas.Result.{err_from_is_err_and}
use Rattle.theory_validity.specs.Words.{columns, ends_from}
use Rattle.solve_composition.proofs.walk.Numbers.{actions_numbers}
use Rattle.lang_tree.specs.declared.limits.TheConstants.{MOST_HIDDEN}
use Rattle.solve_composition.proofs.walk.States.{state_is}
use Rattle.solve_composition.proofs.composed.Edges.{width_is, start_size, edge_refused, rows_refused, edge_composed, guards_within}
use Rattle.solve_composition.proofs.edge.compose_edge.Goals as goal

pub walk-requires-clause-actions : goal.walk-requires-clause-actions
walk-requires-clause-actions c = actions_numbers (c.args.variables + MOST_HIDDEN) c.args.actions.now c.requires.actions

pub walk-requires-clause-width : goal.walk-requires-clause-width
walk-requires-clause-width c =
    let size = start_size (c.args.variables + c.count_frees-frees.result) c.args.variables c.in_ok-state.state.items
    (c.in_ok-state.ensures) in
    let count = c.count_frees-frees.ensures.count in
    omega (arith, size, count)

pub walk-requires-clause-state : goal.walk-requires-clause-state
walk-requires-clause-state c = state_is c.in_ok-state.state.items (c.args.variables + c.count_frees-frees.result) (columns c.args.variables)
    (c.in_ok-state.ensures)

pub returns-in_err-guards : goal.returns-in_err-guards
returns-in_err-guards c =
    let p = err_from_is_err_and c.from_residual-in_err-guards.result c.from_residual-in_err-guards.ensures.1 in
    let start = c.in_ok-state.ensures in
    let w = c.args.variables + c.count_frees-frees.result in
    rw (p.1, p.2)
    (edge_refused c.args.variables w (length c.in_ok-state.state.items) c.args.template.now c.args.actions.now
    (width_is c.args.variables c.count_frees-frees.result c.args.actions.now c.count_frees-frees.ensures.count)
    (start_size w c.args.variables c.in_ok-state.state.items start) c.in_err-guards.field-0.0
    (c.in_err-guards.ensures (columns c.args.variables) start c.args.template.now))

pub compose_rows-requires : goal.compose_rows-requires
compose_rows-requires c =
    let start = c.in_ok-state.ensures in
    let end = c.as_slice.ensures.value in
    record {
      state = state_is c.as_slice.result.now (c.args.variables + c.count_frees-frees.result)
          (ends_from (length c.in_ok-state.state.items) (columns c.args.variables) c.args.actions.now)
          (end ∙ (c.in_ok-guards.ensures (columns c.args.variables) start).1);
    }

pub returns-in_err-rows : goal.returns-in_err-rows
returns-in_err-rows c =
    let p = err_from_is_err_and c.from_residual-in_err-rows.result c.from_residual-in_err-rows.ensures.1 in
    let start = c.in_ok-state.ensures in
    let end = c.as_slice.ensures.value in
    let w = c.args.variables + c.count_frees-frees.result in
    let g = c.in_ok-guards.ensures (columns c.args.variables) start in
    rw (p.1, p.2)
    (rows_refused c.args.variables w (length c.in_ok-state.state.items) c.args.template.now c.args.actions.now
    (width_is c.args.variables c.count_frees-frees.result c.args.actions.now c.count_frees-frees.ensures.count)
    (start_size w c.args.variables c.in_ok-state.state.items start) (g.2 c.args.template.now) c.in_err-rows.field-0.0
    (c.in_err-rows.ensures (ends_from (length c.in_ok-state.state.items) (columns c.args.variables) c.args.actions.now) (end ∙ g.1)))

pub invariant_of-result : goal.invariant_of-result
invariant_of-result c =
    let start = c.in_ok-state.ensures in
    let g = c.in_ok-guards.ensures (columns c.args.variables) start in
    guards_within c.args.variables (length c.in_ok-state.state.items) (c.args.variables + c.count_frees-frees.result) c.args.actions.now
    c.in_ok-guards.guards g.0 c.requires.few

pub returns : goal.returns
returns c =
    let start = c.in_ok-state.ensures in
    let end = c.as_slice.ensures.value in
    let w = c.args.variables + c.count_frees-frees.result in
    let g = c.in_ok-guards.ensures (columns c.args.variables) start in
    let r = c.in_ok-rows.ensures (ends_from (length c.in_ok-state.state.items) (columns c.args.variables) c.args.actions.now) (end ∙ g.1) in
    edge_composed c.args.variables w (length c.in_ok-state.state.items) c.args.template.now c.args.actions.now
    (width_is c.args.variables c.count_frees-frees.result c.args.actions.now c.count_frees-frees.ensures.count)
    (start_size w c.args.variables c.in_ok-state.state.items start) (g.2 c.args.template.now) c.count_frees-frees.result
    c.in_ok-guards.guards c.in_ok-rows.rows c.count_frees-frees.ensures.count g.0 r.0 r.1
