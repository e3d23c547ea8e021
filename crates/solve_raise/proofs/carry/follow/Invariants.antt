use Rattle.std.proofs.Common.{◌≡◌, ◌≤◌, length, drop}
use Rattle.flow_systems.specs.FreeValues.{free_count}
use Rattle.flow_systems.specs.TraceTests.{LeadsOn}
use Rattle.solve_raise.specs.Moves.{moves}
use Rattle.solve_raise.proofs.carry.follow.Given as goal

abbrev pub invariant-loop-action : goal.invariant-loop-action
invariant-loop-action l = record {
  leads : LeadsOn (moves l.constants l.actions) l.fn.state l.free (moves l.constants (drop l.action-index l.actions)) l.state
      (drop l.taken l.free);
  count : length (drop l.taken l.free) ≡ free_count (drop l.action-index l.actions);
  taken : l.taken ≤ length l.free;
}
