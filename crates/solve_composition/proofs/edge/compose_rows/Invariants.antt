use Rattle.std.proofs.Common.{◌≡◌, List, map, take}
use Rattle.theory_validity.specs.Words.{Affine as Form, combined}
use Rattle.solve_composition.specs.Composed.{dense}
use Rattle.solve_composition.specs.Operations.{row_composition}
use Rattle.solve_composition.proofs.faults.Passed.{IsPassed}
use Rattle.solve_composition.proofs.edge.compose_rows.Given as goal

abbrev pub invariant-loop-row : goal.invariant-loop-row
invariant-loop-row l = record {
  list : (forms : List Form) → l.state ≡ map (dense l.width) forms → l.rows.items
      ≡ map (λ row. dense l.width (combined row forms)) (take l.row-index l.template);
  passed : (forms : List Form) → l.state ≡ map (dense l.width) forms → IsPassed (row_composition l.width forms) l.template l.row-index;
}
