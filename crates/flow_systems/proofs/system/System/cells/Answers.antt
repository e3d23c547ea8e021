use Rattle.std.proofs.Common.{◌∙◌, ◌+◌, ◌*◌, ◌≤◌, ap, ap₂, length, mul-le-mul_right, sym, arith}
use Rattle.std.specs.List.{list_any}
use Rattle.std.specs.Prelude.{◌==◌, nat_le}
use Rattle.std.proofs.lemmas.Bool.{leb-true}
use Rattle.flow_systems.specs.View.{equations_of}
use Rattle.flow_systems.specs.Cells.{unknown_cells}
use Rattle.flow_systems.specs.SystemLimits.{is_over}
use Rattle.flow_systems.specs.declared.limits.TheConstants.{MOST_UNKNOWNS}
use Rattle.flow_systems.proofs.Sizes.{both}
use Rattle.flow_systems.proofs.system.CellSums.{sum_yes, sum_no}
use Rattle.flow_systems.proofs.system.System.cells.Goals as goal
use Rattle.flow_systems.proofs.system.System.cells.Goals.{then-is_reached, else-is_reached}

pub loop-point-preserved : goal.loop-point-preserved
loop-point-preserved c =
    let system = equations_of c.args.self.now in
    let p = c.loop-point.point in
    let reached = c.is_reached.ensures ∙ ap (λ es. list_any (λ e. e.to == p) es) c.as_slice-edges.ensures in
    elim c.if-is_reached.branch [
      | then-is_reached w ↦ record {
        cells = w.cells-is ∙ ap₂ (λ x y. x + y) c.loop-point.invariant.cells w.point_cells-cells.ensures.cells
            ∙ sym (sum_yes system (unknown_cells system) p c.loop-point.auto.point (sym reached ∙ w.if-is_reached.true));
        few = omega (arith, w.cells-is, c.loop-point.invariant.few, w.point_cells-cells.ensures.few);
      }
      | else-is_reached w ↦ record {
        cells = w.cells-is ∙ c.loop-point.invariant.cells ∙ sym (sum_no system (unknown_cells system) p c.loop-point.auto.point
            (sym reached ∙ w.if-is_reached.false));
        few = omega (arith, w.cells-is, c.loop-point.invariant.few);
      }
    ]

pub overflow_add-cells : goal.overflow_add-cells
overflow_add-cells c =
    let system = c.args.self.now in
    let rows = length system.template in
    let size = leb-true (length system.flow.points * rows) MOST_UNKNOWNS
    (both (is_over (length system.flow.names) system.template) (nat_le (length system.flow.points * rows) MOST_UNKNOWNS)
    system.within_limits).1 in
    let points = ap (λ ps. length ps) c.as_slice.ensures in
    let next : (c.loop-point.point + 1) * rows ≤ length system.flow.points * rows = mul-le-mul_right rows (omega (arith, points)) in
    omega (arith, size, next, c.loop-point.invariant.few, c.point_cells-cells.ensures.few)
