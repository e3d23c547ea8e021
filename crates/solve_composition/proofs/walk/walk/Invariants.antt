use Rattle.std.proofs.Common.{◌≡◌, ◌+◌, List, length, drop, map}
use Rattle.theory_validity.specs.Words.{Affine as Form, free_count}
use Rattle.solve_composition.specs.Composed.{dense}
use Rattle.solve_composition.specs.Walks.{IsState}
use Rattle.solve_composition.proofs.operations.Walked.{Walked}
use Rattle.solve_composition.proofs.walk.walk.Given as goal

abbrev pub invariant-loop-action : goal.invariant-loop-action
invariant-loop-action l = record {
  walked : (forms : List Form) → l.fn.state.items ≡ map (dense l.width) forms
      → Walked l.width (length l.fn.state.items) forms l.actions l.action-index l.next l.state.items l.guards.items;
  state : IsState l.width l.state.items;
  room : l.next + free_count (drop l.action-index l.actions) ≡ l.width;
}
