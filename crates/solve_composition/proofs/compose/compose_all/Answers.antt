use Rattle.std.proofs.Common.{◌+◌, ◌≤◌, ℕ, List, ap, refl, length, sym, subst, subst₂}
use Rattle.std.specs.Prelude.{IsTrue}
use Rattle.lang_tree.specs.declared.limits.TheConstants.{MOST_HIDDEN}
use Rattle.std.specs.List.{list_all}
use Rattle.flow_edges.specs.declared.edge.Action.{Action}
use Rattle.flow_edges.specs.FlowLimits.{is_action}
use Rattle.flow_systems.proofs.EdgeActions.{edge_fits}
use Rattle.flow_edges.specs.declared.limits.TheConstants.{MOST_ACTIONS}
use Rattle.solve_composition.proofs.compose.compose_all.Goals as goal

pub loop-number-init : goal.loop-number-init
loop-number-init c = record { list = c.in_ok-list.ensures.items; first = refl }

pub compose_edge-requires-clause-few : goal.compose_edge-requires-clause-few
compose_edge-requires-clause-few c =
    subst (λ (xs : List Action). length xs ≤ MOST_ACTIONS) (sym c.as_slice.ensures)
    (edge_fits c.args.system.now.flow c.as_slice-edges.result.now c.loop-number.number c.index-edges-number.result c.as_slice-edges.ensures
    c.loop-number-test.true c.index-edges-number.is).few

pub compose_edge-requires-clause-actions : goal.compose_edge-requires-clause-actions
compose_edge-requires-clause-actions c =
    subst₂ (λ n (xs : List Action). IsTrue (list_all (is_action (n + MOST_HIDDEN)) xs))
    (ap (λ (ns : List (List ℕ)). length ns) (sym c.as_slice-variables.ensures)) (sym c.as_slice.ensures)
    (edge_fits c.args.system.now.flow c.as_slice-edges.result.now c.loop-number.number c.index-edges-number.result c.as_slice-edges.ensures
    c.loop-number-test.true c.index-edges-number.is).actions_fit
