use Rattle.std.proofs.Common.{◌≡◌, ◌≤◌, length, drop, map}
use Rattle.flow_systems.specs.FreeValues.{free_count}
use Rattle.flow_systems.specs.TraceTests.{LeadsOn}
use Rattle.flow_systems.specs.Constants.{action_with}
use Rattle.flow_systems.proofs.follow.follow.Given as goal

abbrev pub invariant-loop-action : goal.invariant-loop-action
invariant-loop-action l = record {
  leads : LeadsOn (map (action_with l.constants) l.actions) l.fn.state l.free
      (drop l.action-index (map (action_with l.constants) l.actions)) l.state (drop l.taken l.free);
  count : length (drop l.taken l.free) ≡ free_count (drop l.action-index l.actions);
  taken : l.taken ≤ length l.free;
}
