use Rattle.std.proofs.Common.{◌≡◌, ◌+◌, ◌≤◌, drop}
use Rattle.theory_validity.specs.Words.{free_count}
use Rattle.solve_composition.proofs.walk.count_frees.Given as goal

abbrev pub invariant-loop-action : goal.invariant-loop-action
invariant-loop-action l = record {
  count : l.count + free_count (drop l.action-index l.actions) ≡ free_count l.actions;
  few : l.count ≤ l.action-index;
}
