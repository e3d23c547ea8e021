use Rattle.std.proofs.Common.{◌∙◌, ap, ap₂, max, sym}
use Rattle.std.proofs.lemmas.Bool.{ne_eqb}
use Rattle.flow_systems.specs.FreeValues.{free_count}
use Rattle.flow_systems.specs.Cells.{guard_count, is_havoc}
use Rattle.std.specs.List.{count_by}
use Rattle.flow_systems.proofs.free_values.CellCounts.{free_count-is, max-is, most_yes, most_no}
use Rattle.flow_systems.proofs.cells.greatest.Goals as goal
use Rattle.flow_systems.proofs.cells.greatest.Goals.{then-edge-point, else-edge-point}

pub loop-edge-preserved : goal.loop-edge-preserved
loop-edge-preserved c =
    elim c.if-edge-point.branch [
      | then-edge-point w ↦ record {
        guards = w.most_guards-is ∙ w.max-most_guards.ensures ∙ max-is c.loop-edge.most_guards w.guards.result
            ∙ ap₂ max c.loop-edge.invariant.guards (w.guards.ensures ∙ ap guard_count w.as_slice.ensures)
            ∙ sym (most_yes guard_count c.args.edges.now c.loop-edge.edge-index c.edge-item.result c.args.point c.loop-edge-test.true
            c.edge-item.is w.if-edge-point.true);
        frees = w.most_frees-is ∙ w.max-most_frees.ensures ∙ max-is c.loop-edge.most_frees w.frees.result
            ∙ ap₂ max c.loop-edge.invariant.frees (w.frees.ensures ∙ ap (λ t. count_by is_havoc t) w.as_slice-then-edge-point.ensures
            ∙ sym (free_count-is c.edge-item.result.actions))
            ∙ sym (most_yes free_count c.args.edges.now c.loop-edge.edge-index c.edge-item.result c.args.point c.loop-edge-test.true
            c.edge-item.is w.if-edge-point.true);
      }
      | else-edge-point w ↦ record {
        guards = w.most_guards-is ∙ c.loop-edge.invariant.guards ∙ sym
            (most_no guard_count c.args.edges.now c.loop-edge.edge-index c.edge-item.result c.args.point c.loop-edge-test.true
            c.edge-item.is (ne_eqb c.edge-item.result.to c.args.point w.if-edge-point.false));
        frees = w.most_frees-is ∙ c.loop-edge.invariant.frees ∙ sym (most_no free_count c.args.edges.now c.loop-edge.edge-index
            c.edge-item.result c.args.point c.loop-edge-test.true c.edge-item.is
            (ne_eqb c.edge-item.result.to c.args.point w.if-edge-point.false));
      }
    ]
