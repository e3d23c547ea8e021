use Rattle.std.proofs.Common.{◌≡◌, ◌++◌, List, map, take}
use Rattle.theory_validity.specs.Words.{Affine as Formal, composed}
use Rattle.solve_composition.specs.Composed.{dense}
use Rattle.solve_composition.specs.Operations.{form_composition}
use Rattle.solve_composition.proofs.faults.Passed.{IsPassed}
use Rattle.solve_composition.proofs.placed.add_guards.Given as goal

abbrev pub invariant-loop-guard : goal.invariant-loop-guard
invariant-loop-guard l = record {
  made : (forms : List Formal) → l.state ≡ map (dense l.width) forms
      → l.list.items ≡ l.fn.list.items ++ map (λ guard. dense l.width (composed guard forms)) (take l.guard-index l.guards);
  passed : (forms : List Formal) → l.state ≡ map (dense l.width) forms → IsPassed (form_composition l.width forms) l.guards l.guard-index;
}
