use Rattle.std.proofs.Common.{◌≡◌, ◌∙◌, ◌<◌, [], length, get_or, refl, ap, sym, subst}
use Rattle.std.specs.Prelude.{IsTrue}
use Rattle.std.specs.List.{list_all}
use Rattle.std.proofs.lemmas.Option.{slice_get_read, get_or_from_slice_get}
use Rattle.flow_edges.specs.FlowLimits.{is_action}
use Rattle.flow_edges.specs.declared.edge.Edge.{Edge}
use Rattle.flow_systems.specs.FreeValues.{free_count}
use Rattle.flow_systems.specs.States.{dotℚ}
use Rattle.flow_systems.specs.Sums.{SumAnswers, row_operations}
use Rattle.flow_systems.specs.TraceTests.{LeadsOn}
use Rattle.flow_systems.specs.View.{equations_of}
use Rattle.flow_systems.specs.declared.values.TheConstants.{MOST_VALUES}
use Rattle.flow_systems.proofs.EdgeActions.{edge_fits, few_values}
use Rattle.solve_raise.specs.Moves.{moves, trace_of}
use Rattle.solve_raise.proofs.carry.Carrying.{row_answers}
use Rattle.solve_raise.proofs.carry.carried_from.Goals as goal

pub follow-requires-clause-actions : goal.follow-requires-clause-actions
follow-requires-clause-actions c =
    let within : c.args.edge < length c.as_slice-edges.result.now =
    subst (λ es. c.args.edge < length es) (sym c.as_slice-edges.ensures) c.requires.edge in
    let fits = edge_fits c.args.system.now.flow c.as_slice-edges.result.now c.args.edge c.index-edges-edge.result c.as_slice-edges.ensures
    within c.index-edges-edge.is in
    subst (λ actions. IsTrue (list_all (is_action MOST_VALUES) actions))
    (sym (c.as_slice.ensures ∙ ap (λ (x : Edge). x.actions) (sym c.index-edges-edge.is)))
    (few_values c.args.system.now.flow c.index-edges-edge.result.actions fits.actions_fit)

pub follow-requires-clause-free : goal.follow-requires-clause-free
follow-requires-clause-free c =
    let is : c.index-edges-edge.result ≡ get_or c.args.system.now.flow.edges c.args.edge c.index-edges-edge.result =
    c.index-edges-edge.is ∙ ap (λ es. get_or es c.args.edge c.index-edges-edge.result) c.as_slice-edges.ensures in
    c.requires.free c.index-edges-edge.result
    (slice_get_read c.args.system.now.flow.edges (length c.args.system.now.flow.edges) c.args.edge c.index-edges-edge.result refl
    c.requires.edge is)
    ∙ ap free_count (sym (c.as_slice.ensures ∙ ap (λ (x : Edge). x.actions) (sym c.index-edges-edge.is)))

pub returns : goal.returns
returns c = λ e cs f g.
    let z = c.follow.new.state in
    let here = c.index-edges-edge.result in
    let p : c.as_slice.result.now ≡ e.actions = c.as_slice.ensures ∙ ap (λ edge. edge.actions)
    (ap (λ es. get_or es c.args.edge here) c.as_slice-edges.ensures
    ∙ get_or_from_slice_get c.args.system.now.flow.edges c.args.edge e here f) in
    let q : c.as_slice-2.result.now ≡ cs = c.as_slice-2.ensures.list ∙ c.index-rows-row.is
    ∙ ap (λ rows. get_or rows c.args.row c.index-rows-row.result) c.as_slice-rows.ensures.rows
    ∙ get_or_from_slice_get c.args.system.now.template c.args.row cs c.index-rows-row.result g in
    row_answers c.args.constants (equations_of c.args.system.now) e cs (trace_of c.args.state.now c.args.free.now) z c.row_value.result
    c.requires.start
    (subst (λ actions. LeadsOn (moves c.args.constants actions) c.args.state.now c.args.free.now [] z []) p c.in_ok-follow.ensures)
    (subst (λ x. SumAnswers (dotℚ cs x) (row_operations cs x) c.row_value.result) c.as_slice-3.ensures
    (subst (λ row. SumAnswers (dotℚ row c.as_slice-3.result.now) (row_operations row c.as_slice-3.result.now) c.row_value.result) q
    c.row_value.ensures))
