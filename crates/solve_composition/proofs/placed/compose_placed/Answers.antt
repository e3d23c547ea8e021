use Rattle.std.proofs.Common.{◌∙◌, ◌+◌, [], length, arith}
use Rattle.std.proofs.lemmas.Result.{err_from_is_err_and}
use Rattle.theory_validity.specs.Words.{columns, ends_from}
use Rattle.solve_composition.proofs.behind.Forms.{placed_refused, behind_refused, placed_composed}
use Rattle.solve_composition.proofs.composed.Edges.{width_is, start_size}
use Rattle.solve_composition.proofs.walk.Numbers.{actions_numbers, forms_numbers}
use Rattle.lang_tree.specs.declared.limits.TheConstants.{MOST_HIDDEN}
use Rattle.solve_composition.proofs.walk.States.{state_is}
use Rattle.solve_composition.proofs.placed.compose_placed.Goals as goal

pub walk-requires-clause-actions : goal.walk-requires-clause-actions
walk-requires-clause-actions c = actions_numbers (c.args.variables + MOST_HIDDEN) c.args.before.now c.requires.before

pub walk-requires-clause-width : goal.walk-requires-clause-width
walk-requires-clause-width c =
    let size = start_size (c.args.variables + c.count_frees-frees.result) c.args.variables c.in_ok-state.state.items
    (c.in_ok-state.ensures) in
    let count = c.count_frees-frees.ensures.count in
    omega (arith, size, count)

pub walk-requires-clause-state : goal.walk-requires-clause-state
walk-requires-clause-state c = state_is c.in_ok-state.state.items (c.args.variables + c.count_frees-frees.result) (columns c.args.variables)
    (c.in_ok-state.ensures)

pub returns-in_err-walked : goal.returns-in_err-walked
returns-in_err-walked c =
    let p = err_from_is_err_and c.from_residual-in_err-walked.result c.from_residual-in_err-walked.ensures.1 in
    let start = c.in_ok-state.ensures in
    let w = c.args.variables + c.count_frees-frees.result in
    rw (p.1, p.2)
    (placed_refused c.args.variables w (length c.in_ok-state.state.items) c.args.before.now c.args.guards.now
    (width_is c.args.variables c.count_frees-frees.result c.args.before.now c.count_frees-frees.ensures.count)
    (start_size w c.args.variables c.in_ok-state.state.items start) c.in_err-walked.field-0.0
    (c.in_err-walked.ensures (columns c.args.variables) start []))

pub add_guards-requires-clause-guards : goal.add_guards-requires-clause-guards
add_guards-requires-clause-guards c = forms_numbers (c.args.variables + MOST_HIDDEN) c.args.guards.now c.requires.guards

pub add_guards-requires-clause-state : goal.add_guards-requires-clause-state
add_guards-requires-clause-state c =
    let start = c.in_ok-state.ensures in
    let end = c.as_slice.ensures.value in
    state_is c.as_slice.result.now (c.args.variables + c.count_frees-frees.result)
    (ends_from (length c.in_ok-state.state.items) (columns c.args.variables) c.args.before.now)
    (end ∙ (c.in_ok-walked.ensures (columns c.args.variables) start).1)

pub returns-in_err-add_guards : goal.returns-in_err-add_guards
returns-in_err-add_guards c =
    let p = err_from_is_err_and c.from_residual-in_err-add_guards.result c.from_residual-in_err-add_guards.ensures.1 in
    let start = c.in_ok-state.ensures in
    let end = c.as_slice.ensures.value in
    let w = c.args.variables + c.count_frees-frees.result in
    let g = c.in_ok-walked.ensures (columns c.args.variables) start in
    rw (p.1, p.2)
    (behind_refused c.args.variables w (length c.in_ok-state.state.items) c.args.before.now c.args.guards.now
    (width_is c.args.variables c.count_frees-frees.result c.args.before.now c.count_frees-frees.ensures.count)
    (start_size w c.args.variables c.in_ok-state.state.items start) (g.2 []) c.in_err-add_guards.field-0.0
    (c.in_err-add_guards.ensures (ends_from (length c.in_ok-state.state.items) (columns c.args.variables) c.args.before.now) (end ∙ g.1)))

pub returns : goal.returns
returns c =
    let start = c.in_ok-state.ensures in
    let end = c.as_slice.ensures.value in
    let w = c.args.variables + c.count_frees-frees.result in
    let g = c.in_ok-walked.ensures (columns c.args.variables) start in
    let r = c.in_ok-add_guards.ensures (ends_from (length c.in_ok-state.state.items) (columns c.args.variables) c.args.before.now)
    (end ∙ g.1) in
    placed_composed c.args.variables w (length c.in_ok-state.state.items) c.args.before.now c.args.guards.now
    (width_is c.args.variables c.count_frees-frees.result c.args.before.now c.count_frees-frees.ensures.count)
    (start_size w c.args.variables c.in_ok-state.state.items start) (g.2 []) c.count_frees-frees.result
    c.into_list-list.result.items c.new.result
    c.new-2.result c.count_frees-frees.ensures.count (c.into_list-list.ensures ∙ g.0)
    (c.new-2.ensures ∙ g.1) (c.new.ensures ∙ r.0) r.1
