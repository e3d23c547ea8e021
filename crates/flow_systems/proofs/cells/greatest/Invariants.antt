use Rattle.std.proofs.Common.{◌≡◌, take}
use Rattle.flow_systems.specs.FreeValues.{free_count}
use Rattle.flow_systems.specs.Cells.{guard_count, most}
use Rattle.flow_systems.proofs.cells.greatest.Given as goal

abbrev pub invariant-loop-edge : goal.invariant-loop-edge
invariant-loop-edge l = record {
  guards : l.most_guards ≡ most guard_count (take l.edge-index l.edges) l.point;
  frees : l.most_frees ≡ most free_count (take l.edge-index l.edges) l.point;
}
